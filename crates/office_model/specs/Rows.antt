-- The rows that an office has in each table.
use Rattle.std.specs.Prelude.{◌∷◌, if◌then◌else◌, ℕ, suc, Bool, true, false, List, [], map, flat_map}
use Rattle.office_model.specs.Common.{Aim, Greedy, Generous, Text, Number, Bytes, Change, Supervisor, Project, Student, Round, Import, RoundAim, Choice, Placement, Cells, AllRows, RowOf, SameRows, of_table, SupervisorEntry, ProjectEntry, StudentEntry, RoundEntry, Listed, PlacementEntry, AimEntry, ImportEntry, State}
use Rattle.schema.specs.declared.cell.Cell.{Cell}
use Rattle.schema.specs.Changes.{TransformsRows}
use Rattle.office_model.specs.Kinds.{word_of}

-- a truth value in a cell
abbrev pub flag : Bool → Cell
flag b = Number (if b then 1 else 0)

-- whether an aim is the generous one
abbrev pub is_generous : Aim → Bool
is_generous Greedy = false
is_generous Generous = true

-- a supervisor's row
abbrev pub supervisor_cells : SupervisorEntry → Cells
supervisor_cells s = Text s.code ∷ Text s.label ∷ Number s.quota ∷ []

-- a project's row
abbrev pub project_cells : ProjectEntry → Cells
project_cells p = Text p.code ∷ Text p.label ∷ Text p.supervisor ∷ Number p.quota ∷ []

-- a student's row
abbrev pub student_cells : StudentEntry → Cells
student_cells s = Text s.code ∷ Text s.label ∷ []

-- a round's row
abbrev pub round_cells : RoundEntry → Cells
round_cells r = Number r.number ∷ flag r.is_open ∷ []

-- the row of a round's aim
abbrev pub aim_cells : AimEntry → Cells
aim_cells a = Number a.round ∷ flag (is_generous a.aim) ∷ []

-- a placement's row
abbrev pub placement_cells : PlacementEntry → Cells
placement_cells p = Text p.student ∷ Number p.round ∷ Text p.project ∷ Number p.rank ∷ []

-- an import's row
abbrev pub import_cells : ImportEntry → Cells
import_cells i = Text i.id ∷ Text (word_of i.kind) ∷ Bytes i.bytes ∷ Number i.rows ∷ []

-- the row of the choice at a place of a student's list in a round
abbrev pub choice_cells : ℕ → List ℕ → ℕ → List ℕ → Cells
choice_cells round student place project = Number round ∷ Text student ∷ Number place ∷ Text project ∷ []

-- the rows of a student's choices in a round, from a place on
abbrev pub choice_rows : ℕ → List ℕ → ℕ → List (List ℕ) → List Cells
choice_rows round student place [] = []
choice_rows round student place (c ∷ cs) = choice_cells round student place c ∷ choice_rows round student (suc place) cs

-- those of a list
abbrev pub list_rows : ℕ → Listed → List Cells
list_rows round l = choice_rows round l.student 1 l.choices

-- those of all lists of a round
abbrev pub rows_of_round : RoundEntry → List Cells
rows_of_round r = flat_map (list_rows r.number) r.lists

-- the rows of an office in each table; none in that of the edition, which the office does not know, and none in those of earlier editions
abbrev pub rows_in : State → AllRows
rows_in o Supervisor = map supervisor_cells o.supervisors
rows_in o Project = map project_cells o.projects
rows_in o Student = map student_cells o.students
rows_in o Round = map round_cells o.rounds
rows_in o RoundAim = map aim_cells o.aims
rows_in o Choice = flat_map rows_of_round o.rounds
rows_in o Placement = map placement_cells o.placements
rows_in o Import = map import_cells o.imports
rows_in o _ = []

-- the rows are those of the office, in whatever order
abbrev pub AreRowsOf : List RowOf → State → Type 0
AreRowsOf rows o = SameRows (of_table rows) (rows_in o)

-- changes transform the rows of one office into those of another
abbrev pub Transforms : List Change → State → State → Type 0
Transforms changes old new = TransformsRows changes (rows_in old) (rows_in new)
