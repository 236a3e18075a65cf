-- What saving changes does to the tables.
use Rattle.std.specs.Prelude.{◌≡◌, ◌≢◌, IsTrue, Err, OnErr, Result, false, ⊤, List}
use Rattle.store.specs.Common.{HasCleanDisk, Survives, Held, state, IsKept, AllByRecursion, Schema, AnyTable, Has, Table, Database, Seen, Change, Add, AllRows, after_changes, changed, Place, Lists, table_at, IsActedOn, HasSaved, Trees, Ghosts, StoreFault, Storage}
use Rattle.store.specs.Rows.{IsAmong, IsRollTable, rolls}
use Rattle.sql_tables.specs.Writes.{IsInert}
use Rattle.store.specs.Tables.{LeavesAlone, TablesHold}
use Rattle.store.specs.Available.{StaysOurs}

-- no foreign key acts on this table, wherever it is listed
abbrev pub IsLeftAlone : Table → Schema → Type 0
IsLeftAlone table schema = (place : Place) → Lists schema (table_at table place) → IsInert schema place.tree

-- no foreign key acts on these tables
abbrev pub AreLeftAmong : List Table → Schema → Type 0
AreLeftAmong tables schema = (table : Table) → IsAmong tables table → IsLeftAlone table schema

-- no foreign key of another table acts on the tables of the rolls
abbrev pub AreInert : Schema → Type 0
AreInert = AreLeftAmong rolls

-- a foreign key acts on this table
abbrev pub IsActedOnAt : Table → Schema → Type 0
IsActedOnAt table schema = (place : Place) × Lists schema (table_at table place) × IsActedOn schema.tables place.tree

-- a foreign key acts on one of these tables
abbrev pub AreActedOnAmong : List Table → Schema → Type 0
AreActedOnAmong tables schema = (table : Table) × IsAmong tables table × IsActedOnAt table schema

-- a foreign key of another table acts on one of the tables of the rolls
abbrev pub AreActedOn : Schema → Type 0
AreActedOn = AreActedOnAmong rolls

-- whatever rows the tables held, they hold those after the changes
unfoldable pub Saves : List Change → Database → Database → Type 0
Saves changes old new = (rows : AllRows) → TablesHold old rows → TablesHold new (after_changes changes rows)

-- the schema is as it was, and so is each table of it in whose tree no roll is listed
pub record Spares (old new : Database) : Type 0 where
  pub schema : new.schema ≡ old.schema
  pub others : (t : AnyTable) → Has old.schema.tables t → ((table : Table) → IsRollTable table → (place : Place) → Lists old.schema (table_at table place) → t.tree ≢ place.tree)
      → new.trees t.tree ≡ old.trees t.tree

-- where the tables held rows, the other tables are left alone
unfoldable pub LeavesOthers : Database → Database → Type 0
LeavesOthers old new = (rows : AllRows) → TablesHold old rows → Spares old new

-- what a change asks of the schema: where it adds a row, nothing, and else that no foreign key acts on its table
abbrev pub Needs : Change → Schema → Type 0
Needs (Add row) schema = ⊤
Needs c schema = IsRollTable (changed c) → IsLeftAlone (changed c) schema

-- what changes ask of it
abbrev pub AllNeed : List Change → Schema → Type 0
AllNeed changes schema = AllByRecursion (λ change. Needs change schema) changes

-- the same, of a run of statements, which spare the other tables
unfoldable pub Applies : List Change → Database → Database → Type 0
Applies changes old new =
    AllNeed changes old.schema → (rows : AllRows) → TablesHold old rows → TablesHold new (after_changes changes rows) × Spares old new

-- these changes were saved: the tables hold the rows after them, each other table stays, and a crash leaves what is seen
pub record IsSaving (changes : List Change) (old new : Seen) : Type 0 where
  pub saved : HasSaved (Saves changes) old new
  pub others : LeavesOthers old.now new.now
  pub ours : StaysOurs changes old.now new.now
  pub alone : LeavesAlone new

-- What a call over the tables keeps: with a fault nothing has changed, no transaction is left open, and one that is open already is a
-- fault of the storage. A crash at any moment leaves what it could leave before, or this.
pub record IsSafe {S : Type 0} {A : Type 0} (ghosts : Ghosts S) (leaves : Trees → Type 0) (result : Result A StoreFault) (old new : Held S) : Type 0 where
  pub kept : HasCleanDisk (state ghosts new) → OnErr result (IsKept (state ghosts old) (state ghosts new))
  pub ended : old.in_transaction ≡ false → new.in_transaction ≡ false
  pub begun : IsTrue old.in_transaction → result ≡ Err Storage
  pub crash : Survives (state ghosts old) (state ghosts new) leaves
