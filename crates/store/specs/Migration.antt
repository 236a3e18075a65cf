-- The rows of an office in each edition of the tables, and the changes that bring those of an earlier one to the latest.
use Rattle.std.specs.Prelude.{◌≡◌, ℕ, Bool, false, ⊤, List, [], ◌∷◌, ◌++◌, map, filter, take}
use Rattle.std.specs.List.{list_any}
use Rattle.spa.specs.declared.aim.Aim.TheVariants.{Greedy}
use Rattle.schema.specs.declared.table.Table.{Table}
use Rattle.schema.specs.declared.table.Table.TheVariants.{Round, OldChoice, OldPlacement, RoundAim, Choice, Placement}
use Rattle.schema.specs.declared.row.Change.{Change}
use Rattle.schema.specs.declared.row.Change.TheVariants.{Add, Remove}
use Rattle.schema.specs.declared.row.Group.TheVariants.{Key}
use Rattle.schema.specs.Rows.{AllRows, SameRows, Cells, RowOf, key_in, of_table, same_table}
use Rattle.office_model.specs.State.{State, aim_of}
use Rattle.office_model.specs.Rows.{flag, rows_in}
use Rattle.store.specs.declared.edition.Edition.{Edition}
use Rattle.store.specs.declared.edition.Edition.TheVariants.{First, Second, Third}

-- the table that took a table's place, and the other way round
abbrev pub renamed : Table → Table
renamed Choice = OldChoice
renamed Placement = OldPlacement
renamed OldChoice = Choice
renamed OldPlacement = Placement
renamed table = table

-- the rows that an office has in each table in an edition: lists and placements stand in other tables before the third, and rounds have no
-- aim before the second
abbrev pub rows_in_edition : Edition → State → AllRows
rows_in_edition First o RoundAim = []
rows_in_edition First o table = rows_in o (renamed table)
rows_in_edition Second o table = rows_in o (renamed table)
rows_in_edition Third o table = rows_in o table

-- the first edition has greedy rounds alone
abbrev pub Allows : Edition → State → Type 0
Allows First o = (n : ℕ) → aim_of o n ≡ Greedy
Allows _ o = ⊤

-- the rows are those of the office in this edition, in whatever order
pub record AreRowsIn (e : Edition) (rows : List RowOf) (o : State) : Type 0 where
  pub same : SameRows (of_table rows) (rows_in_edition e o)
  pub allowed : Allows e o

-- what the row of a round's aim is in the first edition, by the round's row: its number, and that it is not generous
abbrev pub aim_of_round : Cells → Cells
aim_of_round round = take 1 round ++ flag false ∷ []

-- that row, with its table
abbrev pub aim_row : Cells → RowOf
aim_row round = record { table = RoundAim; cells = aim_of_round round }

-- the aims of the rounds among rows of the first edition
abbrev pub aims_of : List RowOf → List RowOf
aims_of rows = map aim_row (of_table rows Round)

-- a row as one of the table that took its table's place, and the other way round
abbrev pub renamed_row : RowOf → RowOf
renamed_row r = record r { table = renamed r.table }

-- the tables of earlier editions
abbrev pub olds : List Table
olds = OldChoice ∷ OldPlacement ∷ []

-- whether a table is one of them
abbrev pub is_old_table : Table → Bool
is_old_table table = list_any (same_table table) olds

-- whether a row is of one of them
abbrev pub is_old : RowOf → Bool
is_old r = is_old_table r.table

-- its removal
abbrev pub removal_of : RowOf → Change
removal_of r = Remove (record { group = Key r.table; cells = key_in r.table r.cells })

-- the changes by which rows of earlier editions leave their tables for those that took their place, and others come besides
abbrev pub renaming_changes : List RowOf → List RowOf → List Change
renaming_changes rows more = map removal_of (filter is_old rows) ++ map Add (map renamed_row (filter is_old rows) ++ more)

-- the changes that bring the rows of an edition to the latest
abbrev pub migrating_changes : Edition → List RowOf → List Change
migrating_changes First rows = renaming_changes rows (aims_of rows)
migrating_changes Second rows = renaming_changes rows []
migrating_changes Third rows = []
