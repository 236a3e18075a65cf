-- Rows that a table takes, as its rules have it, and changes that bring no others.
use Rattle.std.specs.Prelude.{◌≡◌, ◌⊎◌, ◌≤◌, ◌<◌, ◌^◌, ◌&&◌, ◌∷◌, ⊤, ℕ, Bool, true, false, List, [], drop, filter, length}
use Rattle.office.specs.changes.Common.{AllByRecursion, list_any, Table, Supervisor, Project, Student, Round, Import, RoundAim, Choice, Placement, Change, Put, Add, Remove, AllRows, Cells, RowOf, begins, key_in, after_change, ImportKind, flag}
use Rattle.schema.specs.declared.cell.Cell.{Cell}
use Rattle.schema.specs.declared.cell.Cell.TheVariants.{Text, Number, Bytes}
use Rattle.schema.specs.declared.row.Group.TheVariants.{List as OfList, Placed}
use Rattle.office_model.specs.Kinds.{word_of}

-- some row of the table begins with this cell
abbrev pub IsKnown : AllRows → Table → Cell → Type 0
IsKnown rows table key = list_any (begins (key ∷ [])) (rows table) ≡ true

-- a student's list in a round does not have this project
abbrev pub IsNotChosen : AllRows → ℕ → List ℕ → List ℕ → Type 0
IsNotChosen rows round student project = list_any (λ row. begins (Number round ∷ Text student ∷ []) row && begins (Text project ∷ []) (drop 3 row)) (rows Choice) ≡ false

-- a row of the table, with its numbers within their ranges, that names rows which are there
abbrev pub IsWithin : AllRows → Table → Cells → Type 0
IsWithin rows Supervisor row = (code : List ℕ) × (label : List ℕ) × (quota : ℕ) × (row ≡ Text code ∷ Text label ∷ Number quota ∷ []) × (quota ≤ 500)
IsWithin rows Project row =
    (code : List ℕ) × (label : List ℕ) × (supervisor : List ℕ) × (quota : ℕ) × (row ≡ Text code ∷ Text label ∷ Text supervisor ∷ Number quota ∷ [])
    × (quota ≤ 500) × IsKnown rows Supervisor (Text supervisor)
IsWithin rows Student row = (code : List ℕ) × (label : List ℕ) × (row ≡ Text code ∷ Text label ∷ [])
IsWithin rows Round row = (number : ℕ) × (is_open : Bool) × (row ≡ Number number ∷ flag is_open ∷ []) × (number < 2 ^ 32)
IsWithin rows RoundAim row = (round : ℕ) × (generous : Bool) × (row ≡ Number round ∷ flag generous ∷ []) × (round < 2 ^ 32) × IsKnown rows Round (Number round)
IsWithin rows Choice row =
    (round : ℕ) × (student : List ℕ) × (place : ℕ) × (project : List ℕ) × (row ≡ Number round ∷ Text student ∷ Number place ∷ Text project ∷ [])
    × (1 ≤ place) × (place ≤ 12) × IsKnown rows Round (Number round) × IsKnown rows Student (Text student) × IsKnown rows Project (Text project) × IsNotChosen rows round student project
IsWithin rows Placement row =
    (student : List ℕ) × (round : ℕ) × (project : List ℕ) × (rank : ℕ) × (row ≡ Text student ∷ Number round ∷ Text project ∷ Number rank ∷ [])
    × (1 ≤ rank) × (rank ≤ 12) × IsKnown rows Student (Text student) × IsKnown rows Round (Number round) × IsKnown rows Project (Text project)
IsWithin rows Import row = (id : List ℕ) × (kind : ImportKind) × (bytes : List ℕ) × (count : ℕ) × (row ≡ Text id ∷ Text (word_of kind) ∷ Bytes bytes ∷ Number count ∷ [])
IsWithin rows _ row = ⊥

-- a cell of at most 65,536 bytes
abbrev pub IsShort : Cell → Type 0
IsShort (Text text) = length text ≤ 65536
IsShort (Number n) = ⊤
IsShort (Bytes bytes) = length bytes ≤ 65536

-- the table takes the row
pub record IsAllowed (rows : AllRows) (r : RowOf) : Type 0 where
  pub within : IsWithin rows r.table r.cells
  pub short : AllByRecursion IsShort r.cells

-- a table of which rows are put in the place of others
abbrev pub IsPut : Table → Type 0
IsPut Supervisor = ⊤
IsPut Project = ⊤
IsPut Student = ⊤
IsPut Round = ⊤
IsPut _ = ⊥

-- The row of a change is one that its table takes. One that is put takes the place of at most one; only lists and placements go.
abbrev pub IsAllowedChange : AllRows → Change → Type 0
IsAllowedChange rows (Put r) = IsAllowed rows r × IsPut r.table × (length (filter (begins (key_in r.table r.cells)) (rows r.table)) ≤ 1)
IsAllowedChange rows (Add r) = IsAllowed rows r
IsAllowedChange rows (Remove p) = (p.group ≡ OfList) ⊎ (p.group ≡ Placed)

-- so it is for each change, when its turn comes
abbrev pub AreAllowed : List Change → AllRows → Type 0
AreAllowed [] rows = ⊤
AreAllowed (c ∷ cs) rows = IsAllowedChange rows c × AreAllowed cs (after_change c rows)
