-- What the calls of the store come to, and why the tables are not made, read or changed, for another cause than running out of memory.
use Rattle.std.specs.Prelude.{◌⊎◌, ◌∷◌, ℕ, List, [], Option}
use Rattle.store.specs.Common.{Database, Has, Number, Change, Add, Put, Remove, Table, EditionTable as Edition, Cells, IsPart, IsRow, RowOf, table_at, IsUnread, Outcome, each_of, entry, followed_by, leaving, making, of_known, Edition as AnEdition, State, AreRowsIn, migrating_changes}
use Rattle.sql_tables.specs.declared.statements.Entering.TheVariants.{InPlace, New}
use Rattle.store.specs.declared.transaction.Task.{Task}
use Rattle.store.specs.declared.transaction.Task.TheVariants.{Create, Migrate, Save}
use Rattle.store.specs.Editions.{IsEarlier, beyond, latest, number_of, migrated, rolls_of}
use Rattle.store.specs.Reading.{AreAllListed}
use Rattle.store.specs.Rows.{all_tables}
use Rattle.store.specs.Saving.{AreActedOnAmong}
use Rattle.store.specs.Tables.{HasNone, StandsIn}

-- a change is made: a row comes into its table, or the rows of a part go
abbrev pub applying : Change → Outcome
applying (Put row) = of_known (IsRow row) (entry InPlace row.table row.cells)
applying (Add row) = of_known (IsRow row) (entry New row.table row.cells)
applying (Remove part) = of_known (IsPart part) (leaving part.group part.cells)

-- the row of the latest edition
abbrev pub latest_number : Cells
latest_number = Number 1 ∷ Number (number_of latest) ∷ []

-- the tables are made, and then the number of the edition comes
abbrev pub creating : Outcome
creating = followed_by (each_of making all_tables) (entry New Edition latest_number)

-- the number of the latest edition comes first, then the tables that an edition lacks are made, and then changes
abbrev pub migrating : AnEdition → List Change → Outcome
migrating e changes = followed_by (entry InPlace Edition latest_number) (followed_by (each_of making (beyond e)) (each_of applying changes))

-- what a transaction comes to that is for this, with these changes
abbrev pub task_of : Task → List Change → Outcome
task_of Create changes = creating
task_of (Migrate e) changes = migrating e changes
task_of Save changes = each_of applying changes

-- one of the changes is refused, once those before it are made
abbrev pub IsHinderedAmong : List Change → Option ℕ → Database → Type 0
IsHinderedAmong changes limit db = let all = each_of applying changes in all.hinders limit db

-- the tables of an earlier edition cannot be migrated by these changes: a foreign key acts on those that change, or a statement is refused
abbrev pub IsHinderedToMigrate : AnEdition → List Change → Option ℕ → Database → Type 0
IsHinderedToMigrate e changes limit db = AreActedOnAmong migrated db.schema ⊎ (let all = migrating e changes in all.hinders limit db)

-- one of the tables of an edition cannot be read, where all of them are listed with their columns and rules
pub record IsHinderedReading (limit : Option ℕ) (db : Database) : Type 0 where
  pub edition : AnEdition
  pub listed : AreAllListed (rolls_of edition) db.schema
  pub table : Table
  pub among : Has (Edition ∷ rolls_of edition) table
  pub hindered : IsUnread (table_at table) limit db

-- the tables stand for an office in an earlier edition, and the changes that bring its rows to the latest are refused
pub record IsHinderedMigrating (limit : Option ℕ) (db : Database) : Type 0 where
  pub edition : AnEdition
  pub earlier : IsEarlier edition
  pub office : State
  pub stands : StandsIn edition db office
  pub rows : List RowOf
  pub are : AreRowsIn edition rows office
  pub hindered : IsHinderedToMigrate edition (migrating_changes edition rows) limit db

-- the tables are not there and cannot be made, one cannot be read, or those of an earlier edition cannot be migrated
abbrev pub IsHinderedOpening : Option ℕ → Database → Type 0
IsHinderedOpening limit db = (HasNone db.schema × creating.hinders limit db) ⊎ (IsHinderedReading limit db ⊎ IsHinderedMigrating limit db)
