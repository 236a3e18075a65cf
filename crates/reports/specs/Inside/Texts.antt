-- For proofs alone. The reports that are written by one function, by a kind.
use Rattle.std.specs.Prelude.{ℕ, Bool, List, Some, filter, flat_map}
use Rattle.std.specs.Str.{bytes_eq}
use Rattle.spa.specs.Counted.{Counted}
use Rattle.office_model.specs.declared.entries.Supervisor.{Supervisor}
use Rattle.office_model.specs.declared.entries.Project.{Project}
use Rattle.office_model.specs.declared.entries.Student.{Student}
use Rattle.office_model.specs.Counted.{AreCounted}
use Rattle.office_model.specs.State.{State}
use Rattle.reports.specs.declared.places_report.Places.{Places}
use Rattle.reports.specs.declared.places_report.Places.TheVariants as places
use Rattle.reports.specs.declared.students_report.Whom.{Whom}
use Rattle.reports.specs.declared.students_report.Whom.TheVariants as whom
use Rattle.reports.specs.Texts.{project_line, supervisor_rows, offer_line, offers_of, is_unplaced, is_missing}

-- what is counted, by position, of the placements of the rounds 1 to n
abbrev pub AreLoads : State → ℕ → Counted → Type 0
AreLoads o n counts = AreCounted (Some n) o.supervisors o.projects o.placements counts

-- the line of a project
abbrev pub project_row : Places → State → ℕ → Supervisor → Project → List ℕ
project_row places.Loads o n s p = project_line o n p
project_row places.Offers o n s p = offer_line o n s p

-- the lines of a supervisor's projects
abbrev pub own_rows : Places → State → ℕ → Supervisor → List ℕ
own_rows told o n s = flat_map (project_row told o n s) (filter (λ p. bytes_eq s.code p.supervisor) o.projects)

-- the lines of a supervisor
abbrev pub rows_of : Places → State → ℕ → Supervisor → List ℕ
rows_of places.Loads o n s = supervisor_rows o n s
rows_of places.Offers o n s = offers_of o n s

-- whether a report names a student
abbrev pub is_named : Whom → State → ℕ → Student → Bool
is_named whom.Unplaced o n s = is_unplaced o n s
is_named whom.Missing o n s = is_missing o n s
