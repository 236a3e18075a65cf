-- The office that the parts of a draft stand for.
use Rattle.office.specs.from_rows.Common.{State}
use Rattle.office.specs.declared.from_rows.draft.PartialOffice.{PartialOffice}

-- what a draft holds
abbrev pub drafted : PartialOffice → State
drafted d = record {
  supervisors = d.supervisors;
  projects = d.projects;
  students = d.students;
  rounds = d.rounds;
  aims = d.aims;
  placements = d.placements;
  imports = d.imports;
}
