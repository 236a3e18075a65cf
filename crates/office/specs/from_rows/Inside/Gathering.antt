-- What rows hold, taken in stage by stage.
use Rattle.std.specs.Prelude.{◌+◌, ◌==◌, ◌&&◌, ◌∷◌, ◌++◌, if◌then◌else◌, ℕ, zero, suc, nat_le, List, [], length, Option, Some, None}
use Rattle.office.specs.from_rows.Common.{filter, option_map_or, option_and_then, RANKS, is_code, Text, Number, Cells, RowOf, Listed, Round as RoundEntry, Key, of_code, find, has, put, State, supervisor_key, project_key, student_key, round_key, aim_key, list_key, placement_key, import_key, round_of, Memory, Unfit}
use Rattle.spa.specs.declared.text.TextFault.{TextFault}
use Rattle.spa.specs.declared.text.TextFault.TheVariants.{Memory as NoMemory, Form}
use Rattle.schema.specs.declared.table.Table.{Table}
use Rattle.schema.specs.declared.table.Table.TheVariants.{Supervisor, Project, Student, Round, Import, RoundAim, Choice, Placement}
use Rattle.office.specs.declared.from_rows.fault.RowsFault.{RowsFault}
use Rattle.office.specs.from_rows.Inside.Decoded.{where_so, supervisor_in, project_in, student_in, round_in, aim_in, placement_in, import_in}

-- a text of a row that is no code or label stands in no office
abbrev pub fault_of_text : TextFault → RowsFault
fault_of_text NoMemory = Memory
fault_of_text Form = Unfit

-- the place of a choice in its list, where a list can have it
abbrev pub place_in : Cells → ℕ
place_in (_ ∷ _ ∷ Number place ∷ _ ∷ []) = if nat_le place RANKS then place else 0
place_in _ = 0

-- the stage at which a row of a table is taken in: a choice at its place, and all else before the choices
abbrev pub stage_in : Table → Cells → ℕ
stage_in Choice cells = place_in cells
stage_in _ cells = 0

abbrev pub stage_of : RowOf → ℕ
stage_of r = stage_in r.table r.cells

-- the rows of a stage
abbrev pub at_stage : ℕ → List RowOf → List RowOf
at_stage stage rows = filter (λ r. stage_of r == stage) rows

-- the rows of this many stages from this one on, stage by stage
abbrev pub stages : ℕ → ℕ → List RowOf → List RowOf
stages zero stage rows = []
stages (suc n) stage rows = at_stage stage rows ++ stages n (suc stage) rows

-- all rows, stage by stage
abbrev pub staged : List RowOf → List RowOf
staged rows = stages (RANKS + 1) 0 rows

-- what a student lists among these
abbrev pub choices_among : List ℕ → List Listed → List (List ℕ)
choices_among student lists = option_map_or (λ l. l.choices) (find list_key (of_code student) lists) []

-- lists with one more choice of a student, after those that are there
abbrev pub with_choice : List ℕ → List ℕ → List Listed → List Listed
with_choice student project lists = put list_key (record { student = student; choices = choices_among student lists ++ project ∷ [] }) lists

-- what is held with an entry more; none where there is no entry, or one with its key is held
abbrev pub with_new : {E : Type 0} → (E → Key) → List E → (List E → State) → Option E → Option State
with_new key es held None = None
with_new key es held (Some e) = if has key (key e) es then None else Some (held (put key e es))

-- what is held with one more choice; none where it is not the next of its list, or its round is not held
abbrev pub with_next : State → List ℕ → ℕ → List ℕ → Option RoundEntry → Option State
with_next o student place project None = None
with_next o student place project (Some r) =
    where_so (length (choices_among student r.lists) + 1 == place)
    (record o { rounds = put round_key (record r { lists = with_choice student project r.lists }) o.rounds })

-- what is held with one more row of choices
abbrev pub after_choice : State → Cells → Option State
after_choice o (Number n ∷ Text student ∷ Number place ∷ Text project ∷ []) =
    if is_code student && is_code project then with_next o student place project (round_of o n) else None
after_choice o _ = None

-- what is held with one more row of a table; none where the row is not one of an office, or its key is held already
abbrev pub after_cells : State → Table → Cells → Option State
after_cells o Supervisor cells = with_new supervisor_key o.supervisors (λ es. record o { supervisors = es }) (supervisor_in cells)
after_cells o Project cells = with_new project_key o.projects (λ es. record o { projects = es }) (project_in cells)
after_cells o Student cells = with_new student_key o.students (λ es. record o { students = es }) (student_in cells)
after_cells o Round cells = with_new round_key o.rounds (λ es. record o { rounds = es }) (round_in cells)
after_cells o RoundAim cells = with_new aim_key o.aims (λ es. record o { aims = es }) (aim_in cells)
after_cells o Choice cells = after_choice o cells
after_cells o Placement cells = with_new placement_key o.placements (λ es. record o { placements = es }) (placement_in cells)
after_cells o Import cells = with_new import_key o.imports (λ es. record o { imports = es }) (import_in cells)
after_cells o _ cells = None

abbrev pub after_row : State → RowOf → Option State
after_row o r = after_cells o r.table r.cells

-- what is held after all of them
abbrev pub gathered : State → List RowOf → Option State
gathered o [] = Some o
gathered o (r ∷ rows) = option_and_then (λ n. gathered n rows) (after_row o r)
