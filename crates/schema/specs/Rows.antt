-- Rows as lists of cells: of each table its rows, in whatever order.
use Rattle.std.specs.Prelude.{ℕ, ◌==◌, ◌&&◌, Bool, true, false, not, IsTrue, List, [], ◌∷◌, map, filter, take, IsPermutation}
use Rattle.std.specs.Str.{bytes_eq}
use Rattle.schema.specs.declared.cell.Cell.{Cell}
use Rattle.schema.specs.declared.cell.Cell.TheVariants.{Text, Number, Bytes}
use Rattle.schema.specs.declared.cell.Kind.{Kind}
use Rattle.schema.specs.declared.cell.Kind.TheVariants as kind
use Rattle.schema.specs.declared.table.Table.{Table}
use Rattle.schema.specs.declared.table.Table.TheVariants.{Edition, Supervisor, Project, Student, Round, OldChoice, OldPlacement, Import, RoundAim, Choice, Placement}
use Rattle.schema.specs.declared.row.Group.{Group}
use Rattle.schema.specs.declared.row.Group.TheVariants as group

-- ---- tables

-- the number of a table, and what the cells of its columns are
abbrev pub numbered : Table → ℕ × List Kind
numbered Edition = (0, kind.Number ∷ kind.Number ∷ [])
numbered Supervisor = (1, kind.Text ∷ kind.Text ∷ kind.Number ∷ [])
numbered Project = (2, kind.Text ∷ kind.Text ∷ kind.Text ∷ kind.Number ∷ [])
numbered Student = (3, kind.Text ∷ kind.Text ∷ [])
numbered Round = (4, kind.Number ∷ kind.Number ∷ [])
numbered OldChoice = (5, kind.Number ∷ kind.Text ∷ kind.Number ∷ kind.Text ∷ [])
numbered OldPlacement = (6, kind.Text ∷ kind.Number ∷ kind.Text ∷ kind.Number ∷ [])
numbered Import = (7, kind.Text ∷ kind.Text ∷ kind.Bytes ∷ kind.Number ∷ [])
numbered RoundAim = (8, kind.Number ∷ kind.Number ∷ [])
numbered Choice = (9, kind.Number ∷ kind.Text ∷ kind.Number ∷ kind.Text ∷ [])
numbered Placement = (10, kind.Text ∷ kind.Number ∷ kind.Text ∷ kind.Number ∷ [])

-- the tables, each at its number
abbrev pub all_tables : List Table
all_tables = Edition ∷ Supervisor ∷ Project ∷ Student ∷ Round ∷ OldChoice ∷ OldPlacement ∷ Import ∷ RoundAim ∷ Choice ∷ Placement ∷ []

-- whether two tables are one
abbrev pub same_table : Table → Table → Bool
same_table a b = (let n = numbered a in n.0) == (let n = numbered b in n.0)

-- what the cells of its columns are
abbrev pub kinds_of : Table → List Kind
kinds_of table = let n = numbered table in n.1

-- how many of the first columns are the key
abbrev pub keyed : Table → ℕ
keyed Choice = 3
keyed OldChoice = 3
keyed _ = 1

-- ---- rows

-- the cells of a row
abbrev pub Cells : Type 0
Cells = List Cell

-- of each table its rows, in some order
abbrev pub AllRows : Type 0
AllRows = Table → List Cells

-- the same rows of each table, in whatever order
abbrev pub SameRows : AllRows → AllRows → Type 0
SameRows rows others = (table : Table) → IsPermutation (rows table) (others table)

-- the key of a row
abbrev pub key_in : Table → Cells → Cells
key_in table row = take (keyed table) row

-- whether two cells are one
abbrev pub same_cell : Cell → Cell → Bool
same_cell (Text a) (Text b) = bytes_eq a b
same_cell (Number a) (Number b) = a == b
same_cell (Bytes a) (Bytes b) = bytes_eq a b
same_cell _ _ = false

-- whether a row begins with these cells
abbrev pub begins : Cells → Cells → Bool
begins [] row = true
begins (c ∷ key) [] = false
begins (c ∷ key) (d ∷ row) = same_cell c d && begins key row

-- ---- rows of a table, and parts of one

-- a row of a table
pub record RowOf : Type 0 where
  pub table : Table
  pub cells : Cells

-- of rows of all tables those of each
abbrev pub of_table : List RowOf → AllRows
of_table rows table = map (λ r. r.cells) (filter (λ r. same_table table r.table) rows)

-- whether a cell is of a kind
abbrev pub is_of : Kind → Cell → Bool
is_of kind.Text (Text text) = true
is_of kind.Number (Number n) = true
is_of kind.Bytes (Bytes bytes) = true
is_of _ _ = false

-- whether there is a cell of each kind
abbrev pub are_of : List Kind → Cells → Bool
are_of [] [] = true
are_of (k ∷ kinds) (c ∷ cells) = is_of k c && are_of kinds cells
are_of _ _ = false

-- it has a cell of its kind for each column; the edition is separate
abbrev pub IsRow : RowOf → Type 0
IsRow r = IsTrue (not (same_table r.table Edition) && are_of (kinds_of r.table) r.cells)

-- the rows of a group that have these cells
pub record PartOf : Type 0 where
  pub group : Group
  pub cells : Cells

-- of which table a group is, and how many columns stand before those that its rows share
abbrev pub shared_by : Group → Table × ℕ
shared_by (group.Key table) = (table, 0)
shared_by group.List = (Choice, 0)
shared_by group.Placed = (Placement, 1)

-- what the cells are that they share
abbrev pub shared_kinds : Group → List Kind
shared_kinds (group.Key table) = take (keyed table) (kinds_of table)
shared_kinds group.List = kind.Number ∷ kind.Text ∷ []
shared_kinds group.Placed = kind.Number ∷ []

-- it has a cell of its kind for each of them
abbrev pub IsPart : PartOf → Type 0
IsPart p = IsTrue (not (same_table (let s = shared_by p.group in s.0) Edition) && are_of (shared_kinds p.group) p.cells)
