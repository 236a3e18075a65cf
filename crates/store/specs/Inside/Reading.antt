-- For proofs alone. What the rows that are read from the tables say.
use Rattle.std.specs.Prelude.{◌≡◌, ◌≢◌, ◌⊎◌, ◌<◌, ◌^◌, [], take, ⊤, ℕ, true, IsTrue, IsUtf8, List, ◌++◌, map, drop, nat_lt}
use Rattle.store.specs.Common.{AllByRecursion, Values, Database, AnyCell as Cell, Text, Number, Bytes, Table, Change, Cells, IsRow, RowOf, SameRows, are_of, of_table, after_changes, IsFit, rows_in, State, Edition as AnEdition, Allows, AreRowsIn, rows_in_edition, migrating_changes, Schema, Seen, IsUnchanged, Has, Place, Lists, table_at, Stands, ℕ, Option, IsUnread, Edition}
use Rattle.schema.specs.declared.cell.Kind.{Kind}
use Rattle.schema.specs.declared.table.Table.TheVariants.{RoundAim}
use Rattle.store.specs.declared.edition.Edition.TheVariants.{First, Second}
use Rattle.store.specs.Migration.{aims_of, renamed_row}
use Rattle.store.specs.Tables.{HoldIn, StandsIn, HasNone, HasNoneOf}
use Rattle.store.specs.Editions.{migrated, rolls_of, beyond, number_of}
use Rattle.store.specs.Saving.{AllNeed, AreLeftAmong}
use Rattle.store.specs.Rows.{IsAmong, values}

-- what the rows of an edition are in the latest
abbrev pub migrated_rows : AnEdition → List RowOf → List RowOf
migrated_rows First rows = map renamed_row (rows ++ aims_of rows)
migrated_rows Second rows = map renamed_row rows
migrated_rows _ rows = rows

-- no row is the aim of a round where rounds have none
abbrev pub HaveNoLater : AnEdition → List RowOf → Type 0
HaveNoLater First rows = of_table rows RoundAim ≡ []
HaveNoLater _ rows = ⊤

-- a cell as the program has it: its text is UTF-8 and its number is of type `u32`
abbrev pub IsTyped : Cell → Type 0
IsTyped (Text text) = IsUtf8 text
IsTyped (Number n) = n < 2 ^ 32
IsTyped (Bytes bytes) = ⊤

-- the cells are a row of the table, as the program has it
abbrev pub IsTypedRow : Table → Cells → Type 0
IsTypedRow table cells = IsRow (record { table = table; cells = cells }) × AllByRecursion IsTyped cells

-- no such row has these columns
abbrev pub IsNoRow : Table → Values → Type 0
IsNoRow table columns = (cells : Cells) → IsTypedRow table cells → values cells ≢ columns

-- a row of the table, whose columns these are after its rowid
abbrev pub IsRowWith : Table → Values → RowOf → Type 0
IsRowWith table columns row = (row.table ≡ table) × (values row.cells ≡ drop 1 columns)

-- this many columns after the rowid were read, each as a cell of its kind
pub record ReadsCells (kinds : List Kind) (columns : Values) (count : ℕ) (cells : Cells) : Type 0 where
  pub cells_are : values cells ≡ take count (drop 1 columns)
  pub kinds_are : are_of (take count kinds) cells ≡ true

-- the rows of the table whose columns these are, each after its rowid
pub record AreReadRows (table : Table) (all : List Values) (rows : List RowOf) : Type 0 where
  pub columns : map values (of_table rows table) ≡ map (drop 1) all
  pub others : (other : Table) → other ≢ table → of_table rows other ≡ []

-- the table is not listed in this tree
abbrev pub IsElsewhere : Table → ℕ → Schema → Type 0
IsElsewhere table tree schema = (place : Place) → Lists schema (table_at table place) → place.tree ≢ tree

-- no other one of these tables is listed in this tree
abbrev pub IsAlone : List Table → Table → ℕ → Schema → Type 0
IsAlone tables table tree schema = (other : Table) → IsAmong tables other → other ≢ table → IsElsewhere other tree schema

-- the table is listed with its columns and rules, and in its tree is neither that of the edition, which is this one, nor another of these
pub record IsListedAlone (tables : List Table) (edition : ℕ) (schema : Schema) (table : Table) : Type 0 where
  pub place : Place
  pub listed : Lists schema (table_at table place)
  pub from_edition : place.tree ≢ edition
  pub alone : IsAlone tables table place.tree schema

-- wherever the table is listed it holds these columns
abbrev pub HoldsColumns : Table → List Values → Database → Type 0
HoldsColumns table all db = (place : Place) → Lists db.schema (table_at table place) → nat_lt place.tree (2 ^ 31) ≡ true → Stands (table_at table) place all db

-- a table was read, and nothing has changed
pub record ReadsTable (table : Table) (rows : List RowOf) (old new : Seen) : Type 0 where
  pub same : IsUnchanged old new
  pub others : (other : Table) → other ≢ table → of_table rows other ≡ []
  pub holds : HoldsColumns table (map values (of_table rows table)) old.now

-- a table holds columns that no row has
pub record HoldsNoRow (table : Table) (db : Database) : Type 0 where
  pub all : List Values
  pub columns : Values
  pub among : Has all columns
  pub none : IsNoRow table columns
  pub holds : HoldsColumns table all db

-- each of these tables was read, the rows are theirs, and nothing has changed
pub record ReadsAll (tables : List Table) (rows : List RowOf) (old new : Seen) : Type 0 where
  pub same : IsUnchanged old new
  pub holds : (table : Table) → IsAmong tables table → HoldsColumns table (map values (of_table rows table)) old.now
  pub others : (table : Table) → (IsAmong tables table → ⊥) → of_table rows table ≡ []

-- this many of these tables were read, if any, and nothing has changed
pub record ReadsSome (tables : List Table) (count : ℕ) (rows : List RowOf) (old new : Seen) : Type 0 where
  pub opened : ((count ≡ 0) × (new.is_open ≡ old.is_open)) ⊎ IsTrue old.is_open
  pub same : IsTrue old.is_open → IsUnchanged old new
  pub holds : (table : Table) → Has (take count tables) table → HoldsColumns table (map values (of_table rows table)) old.now
  pub others : (table : Table) → (Has (take count tables) table → ⊥) → of_table rows table ≡ []

-- The rows of the tables of an edition were read, and nothing has changed. The tables hold them, and they are those of any office that the
-- tables stand for.
pub record HoldsRows (e : AnEdition) (rows : List RowOf) (old new : Seen) : Type 0 where
  pub same : IsUnchanged old new
  pub none_later : HaveNoLater e rows
  pub holds : HoldIn e old.now (of_table rows)
  pub are : (office : State) → StandsIn e old.now office → AreRowsIn e rows office

-- changes that ask of the schema no more than that no foreign key acts on the tables in which rows are replaced or taken out
abbrev pub AskMigrated : List Change → Type 0
AskMigrated changes = (schema : Schema) → AreLeftAmong migrated schema → AllNeed changes schema

-- an office was found in the tables of an edition, with the changes that migrate them, and nothing has changed
pub record FindsOffice (e : AnEdition) (office : State) (changes : List Change) (old new : Seen) : Type 0 where
  pub same : IsUnchanged old new
  pub holds : HoldIn e old.now (rows_in_edition e office)
  pub allowed : Allows e office
  pub fit : IsFit office
  pub asks : AskMigrated changes
  pub turned : SameRows (after_changes changes (rows_in_edition e office)) (rows_in office)
  pub rows : List RowOf
  pub are : AreRowsIn e rows office
  pub migrate : changes ≡ migrating_changes e rows

-- one of these tables holds columns that no row has
abbrev pub HoldsUnread : List Table → Seen → Type 0
HoldsUnread tables old = IsTrue old.is_open × (table : Table) × IsAmong tables table × HoldsNoRow table old.now

-- one of the tables of an edition cannot be read
pub record IsHinderedReadingIn (e : AnEdition) (limit : Option ℕ) (db : Database) : Type 0 where
  pub table : Table
  pub among : Has (rolls_of e) table
  pub hindered : IsUnread (table_at table) limit db

-- the edition of tables of which some are there: none of those beyond it is
pub record IsEditionOf (e : Edition) (schema : Schema) : Type 0 where
  pub some : HasNone schema → ⊥
  pub alone : HasNoneOf (beyond e) schema
  pub later : (f : Edition) → number_of f < number_of e → HasNoneOf (beyond f) schema → ⊥
