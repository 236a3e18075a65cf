-- What changes make of the rows of the tables.
use Rattle.std.specs.Prelude.{◌≡◌, Bool, false, not, List, [], ◌∷◌, filter, map, drop, if◌then◌else◌}
use Rattle.std.specs.List.{list_any}
use Rattle.schema.specs.declared.table.Table.{Table}
use Rattle.schema.specs.declared.row.Change.{Change}
use Rattle.schema.specs.declared.row.Change.TheVariants.{Put, Add, Remove}
use Rattle.schema.specs.Rows.{AllRows, SameRows, Cells, PartOf, begins, key_in, same_table, shared_by}

-- the table of a part
abbrev pub table_of : PartOf → Table
table_of p = let s = shared_by p.group in s.0

-- whether a row is of a part
abbrev pub is_in_part : PartOf → Cells → Bool
is_in_part p row = let s = shared_by p.group in begins p.cells (drop s.1 row)

-- the table that a change is of
abbrev pub changed : Change → Table
changed (Put r) = r.table
changed (Add r) = r.table
changed (Remove p) = table_of p

-- what a change makes of the rows of its table: a row goes in the place of each with its key, one of a new key comes, those of a part go
abbrev pub makes : Change → List Cells → List Cells
makes (Put r) rows = map (λ row. if begins (key_in r.table r.cells) row then r.cells else row) rows
makes (Add r) rows = r.cells ∷ rows
makes (Remove p) rows = filter (λ row. not (is_in_part p row)) rows

-- the rows of all tables after a change
abbrev pub after_change : Change → AllRows → AllRows
after_change c rows table = if same_table table (changed c) then makes c (rows table) else rows table

-- after changes, the first of them first
abbrev pub after_changes : List Change → AllRows → AllRows
after_changes [] rows = rows
after_changes (c ∷ cs) rows = after_changes cs (after_change c rows)

-- no row has the key of one that is added
abbrev pub IsFresh : Change → AllRows → Type 0
IsFresh (Add r) rows = list_any (begins (key_in r.table r.cells)) (rows r.table) ≡ false
IsFresh _ rows = Unit

-- so it is for each row that is added, when it is added
abbrev pub AreFresh : List Change → AllRows → Type 0
AreFresh [] rows = Unit
AreFresh (c ∷ cs) rows = IsFresh c rows × AreFresh cs (after_change c rows)

-- changes transform rows into others, in whatever order, and add none at a key that has one
pub record TransformsRows (changes : List Change) (old new : AllRows) : Type 0 where
  pub fresh : AreFresh changes old
  pub rows : SameRows (after_changes changes old) new
