-- The office that the fields of the program's type stand for.
use Rattle.office.specs.Common.{State}
use Rattle.office.specs.declared.office.Office.TheInside.{Inside}

-- the office of an `Office`
abbrev pub state_of : Inside → State
state_of a = record { supervisors = a.supervisors; projects = a.projects; students = a.students; rounds = a.rounds; aims = a.aims; placements = a.placements; imports = a.imports }
