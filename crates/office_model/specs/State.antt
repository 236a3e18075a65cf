-- What the office holds, and what can be read from it.
use Rattle.std.specs.Prelude.{ℕ, ◌==◌, ◌&&◌, not, Bool, false, nat_le, nat_lt, List, [], length, count_by, Option, None, is_some, if◌then◌else◌}
use Rattle.std.specs.Option.{option_map, option_map_or}
use Rattle.std.specs.Str.{bytes_eq}
use Rattle.spa.specs.declared.aim.Aim.{Aim}
use Rattle.spa.specs.declared.aim.Aim.TheVariants.{Greedy}
use Rattle.office_model.specs.declared.entries.Supervisor.{Supervisor}
use Rattle.office_model.specs.declared.entries.Project.{Project}
use Rattle.office_model.specs.declared.entries.Student.{Student}
use Rattle.office_model.specs.declared.rounds.Round.{Round}
use Rattle.office_model.specs.declared.rounds.Listed.{Listed}
use Rattle.office_model.specs.declared.rounds.Placement.{Placement}
use Rattle.office_model.specs.declared.rounds.RoundAim.{RoundAim}
use Rattle.office_model.specs.declared.import.Import.{Import}
use Rattle.office_model.specs.Roll.{Key, of_code, of_number, find}

-- the office: its three rolls by code, the rounds by number, each with its lists, their aims by number, the placements by student,
-- and the imports that were made, by id
pub record State : Type 0 where
  pub supervisors : List Supervisor
  pub projects : List Project
  pub students : List Student
  pub rounds : List Round
  pub aims : List RoundAim
  pub placements : List Placement
  pub imports : List Import

-- the office that holds nothing
abbrev pub empty : State
empty = record { supervisors = []; projects = []; students = []; rounds = []; aims = []; placements = []; imports = [] }

-- a supervisor's key
abbrev pub supervisor_key : Supervisor → Key
supervisor_key s = of_code s.code

-- a project's key
abbrev pub project_key : Project → Key
project_key p = of_code p.code

-- a student's key
abbrev pub student_key : Student → Key
student_key s = of_code s.code

-- a round's key
abbrev pub round_key : Round → Key
round_key r = of_number r.number

-- the key of a list, among those of its round
abbrev pub list_key : Listed → Key
list_key l = of_code l.student

-- the key of a round's aim
abbrev pub aim_key : RoundAim → Key
aim_key a = of_number a.round

-- a placement's key
abbrev pub placement_key : Placement → Key
placement_key p = of_code p.student

-- the key of an import
abbrev pub import_key : Import → Key
import_key i = of_code i.id

-- the supervisor with this code
abbrev pub supervisor_of : State → List ℕ → Option Supervisor
supervisor_of o code = find supervisor_key (of_code code) o.supervisors

-- the project with this code
abbrev pub project_of : State → List ℕ → Option Project
project_of o code = find project_key (of_code code) o.projects

-- the student with this code
abbrev pub student_of : State → List ℕ → Option Student
student_of o code = find student_key (of_code code) o.students

-- the round with this number
abbrev pub round_of : State → ℕ → Option Round
round_of o n = find round_key (of_number n) o.rounds

-- the entry of a round's aim
abbrev pub round_aim_of : State → ℕ → Option RoundAim
round_aim_of o n = find aim_key (of_number n) o.aims

-- the aim of a round, and greedy where none is stored; a fit office stores one for each of its rounds
abbrev pub aim_of : State → ℕ → Aim
aim_of o n = option_map_or (λ a. a.aim) (round_aim_of o n) Greedy

-- where a student is placed
abbrev pub placement_of : State → List ℕ → Option Placement
placement_of o student = find placement_key (of_code student) o.placements

-- the import with this id
abbrev pub import_of : State → List ℕ → Option Import
import_of o id = find import_key (of_code id) o.imports

-- whether a supervisor is on the roll
abbrev pub has_supervisor : State → List ℕ → Bool
has_supervisor o code = is_some (supervisor_of o code)

-- whether a project is on the roll
abbrev pub has_project : State → List ℕ → Bool
has_project o code = is_some (project_of o code)

-- whether a student is on the roll
abbrev pub has_student : State → List ℕ → Bool
has_student o code = is_some (student_of o code)

-- whether there is a round of this number
abbrev pub has_round : State → ℕ → Bool
has_round o n = is_some (round_of o n)

-- whether an import was made under this id
abbrev pub has_import : State → List ℕ → Bool
has_import o id = is_some (import_of o id)

-- how many rows the import of this id has
abbrev pub kept_rows : State → List ℕ → Option ℕ
kept_rows o id = option_map (λ i. i.rows) (import_of o id)

-- whether a round placed the student
abbrev pub is_placed : State → List ℕ → Bool
is_placed o student = is_some (placement_of o student)

-- whether a round before this one placed the student
abbrev pub is_placed_before : State → List ℕ → ℕ → Bool
is_placed_before o student n = option_map_or (λ p. nat_lt p.round n) (placement_of o student) false

-- the number of the last round, which is how many there are
abbrev pub last_round : State → ℕ
last_round o = length o.rounds

-- whether the round n is open
abbrev pub is_open : State → ℕ → Bool
is_open o n = option_map_or (λ r. r.is_open) (round_of o n) false

-- whether the round n is closed
abbrev pub is_closed : State → ℕ → Bool
is_closed o n = option_map_or (λ r. not r.is_open) (round_of o n) false

-- whether a round is open; only the last one can be
abbrev pub round_is_open : State → Bool
round_is_open o = is_open o (last_round o)

-- the lists of a round
abbrev pub lists_of : State → ℕ → List Listed
lists_of o n = option_map_or (λ r. r.lists) (round_of o n) []

-- a student's list in a round
abbrev pub list_of : State → ℕ → List ℕ → Option Listed
list_of o n student = find list_key (of_code student) (lists_of o n)

-- whether a student has a list in a round
abbrev pub has_list : State → ℕ → List ℕ → Bool
has_list o n student = is_some (list_of o n student)

-- the projects that a student lists in a round; who has no list lists nothing
abbrev pub choices_in : State → ℕ → List ℕ → List (List ℕ)
choices_in o n student = option_map_or (λ l. l.choices) (list_of o n student) []

-- the projects that a student lists in the open round, where there are such
abbrev pub open_choices : State → List ℕ → Option (List (List ℕ))
open_choices o student = if round_is_open o then option_map (λ l. l.choices) (list_of o (last_round o) student) else None

-- how many students a supervisor may have over all rounds
abbrev pub quota_with : State → List ℕ → ℕ
quota_with o code = option_map_or (λ s. s.quota) (supervisor_of o code) 0

-- how many students a project may have over all rounds
abbrev pub quota_in : State → List ℕ → ℕ
quota_in o code = option_map_or (λ p. p.quota) (project_of o code) 0

-- whether a supervisor offers a project
abbrev pub is_offered_by : State → List ℕ → List ℕ → Bool
is_offered_by o supervisor project = option_map_or (λ p. bytes_eq supervisor p.supervisor) (project_of o project) false

-- how many students all rounds placed with a supervisor
abbrev pub placed_with_supervisor : State → List ℕ → ℕ
placed_with_supervisor o code = count_by (λ p. is_offered_by o code p.project) o.placements

-- how many students all rounds placed in a project
abbrev pub placed_in_project : State → List ℕ → ℕ
placed_in_project o code = count_by (λ p. bytes_eq code p.project) o.placements

-- how many students the rounds 1 to n placed with a supervisor
abbrev pub placed_with_supervisor_by : State → ℕ → List ℕ → ℕ
placed_with_supervisor_by o n code = count_by (λ p. nat_le p.round n && is_offered_by o code p.project) o.placements

-- how many students the rounds 1 to n placed in a project
abbrev pub placed_in_project_by : State → ℕ → List ℕ → ℕ
placed_in_project_by o n code = count_by (λ p. nat_le p.round n && bytes_eq code p.project) o.placements

-- how many students a round placed
abbrev pub placed_in_round : State → ℕ → ℕ
placed_in_round o n = count_by (λ p. p.round == n) o.placements

-- how many students a round placed at a rank; the rank of a pair is stored with it when the round is closed
abbrev pub placed_at_rank : State → ℕ → ℕ → ℕ
placed_at_rank o n rank = count_by (λ p. (p.round == n) && (p.rank == rank)) o.placements
