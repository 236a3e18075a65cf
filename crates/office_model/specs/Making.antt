-- The changes of the tables that plain requests make, the first of them first.
use Rattle.std.specs.Prelude.{◌+◌, ◌∷◌, ◌++◌, if◌then◌else◌, ℕ, suc, Bool, true, List, []}
use Rattle.office_model.specs.Common.{Aim, Text, Number, Supervisor, Project, Student, Round, RoundAim, Choice, Change, RowOf, PartOf, Plain, PutSupervisor, PutProject, PutStudent, OpenRound, PutList, DropList, ReopenRound, State, has_supervisor, has_project, has_student, has_list, last_round}
use Rattle.schema.specs.declared.row.Change.TheVariants.{Put, Add, Remove}
use Rattle.schema.specs.declared.row.Group.TheVariants.{List as OfList, Placed}
use Rattle.office_model.specs.Rows.{flag, is_generous, supervisor_cells, project_cells, student_cells, choice_cells}

-- a row goes in the place of the one with its key where that is known, and is added where it is not
abbrev pub put_or_added : Bool → RowOf → Change
put_or_added known r = if known then Put r else Add r

-- the row of a round of this number
abbrev pub round_row : ℕ → Bool → RowOf
round_row round is_open = record { table = Round; cells = Number round ∷ flag is_open ∷ [] }

-- the rows of a student's list in a round
abbrev pub list_part : ℕ → List ℕ → PartOf
list_part round student = record { group = OfList; cells = Number round ∷ Text student ∷ [] }

-- the rows of a round's placements
abbrev pub placed_part : ℕ → PartOf
placed_part round = record { group = Placed; cells = Number round ∷ [] }

-- a student's list in a round goes, where there is one
abbrev pub list_taken : ℕ → List ℕ → Bool → List Change
list_taken round student has = if has then Remove (list_part round student) ∷ [] else []

-- a student's choices in a round are added, from a place on
abbrev pub choices_added : ℕ → List ℕ → ℕ → List (List ℕ) → List Change
choices_added round student place [] = []
choices_added round student place (c ∷ cs) = Add (record { table = Choice; cells = choice_cells round student place c }) ∷ choices_added round student (suc place) cs

-- A student's list in a round, where there is one, gives way to new choices. It goes first, since no project may stand twice in
-- the list, not even between two changes.
abbrev pub list_changes : ℕ → List ℕ → Bool → List (List ℕ) → List Change
list_changes round student has new = list_taken round student has ++ choices_added round student 1 new

-- a round of this number and with this aim opens
abbrev pub opening_changes : ℕ → Aim → List Change
opening_changes round aim = Add (round_row round true) ∷ Add (record { table = RoundAim; cells = Number round ∷ flag (is_generous aim) ∷ [] }) ∷ []

-- a round opens again, and its placements go
abbrev pub reopening_changes : ℕ → List Change
reopening_changes round = Put (round_row round true) ∷ Remove (placed_part round) ∷ []

-- what a plain request changes in the tables of an office
abbrev pub changes_of : Plain → State → List Change
changes_of (PutSupervisor code label quota) o =
    put_or_added (has_supervisor o code) (record { table = Supervisor; cells = supervisor_cells (record { code = code; label = label; quota = quota }) }) ∷ []
changes_of (PutProject code label supervisor quota) o =
    put_or_added (has_project o code) (record { table = Project; cells = project_cells (record { code = code; label = label; supervisor = supervisor; quota = quota }) }) ∷ []
changes_of (PutStudent code label) o = put_or_added (has_student o code) (record { table = Student; cells = student_cells (record { code = code; label = label }) }) ∷ []
changes_of (OpenRound aim) o = opening_changes (last_round o + 1) aim
changes_of (PutList student choices) o = list_changes (last_round o) student (has_list o (last_round o) student) choices
changes_of (DropList student) o = Remove (list_part (last_round o) student) ∷ []
changes_of ReopenRound o = reopening_changes (last_round o)
changes_of _ o = []
