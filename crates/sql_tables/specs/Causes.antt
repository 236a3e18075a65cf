-- Why a statement is not carried out, for another cause than running out of memory.
use Rattle.std.specs.Prelude.{◌≡◌, ◌⊎◌, ◌&&◌, ◌==◌, ◌≤◌, ◌+◌, ◌∷◌, length, ℕ, ℤ, Bool, true, false, drop, filter, find, map, List, [], Option, None, Some, Result, Err}
use Rattle.sql_tables.specs.Common.{IsPermutation, IsSorted, Error, Row, value_cmp, AnyTable, Trees, rowid, Edit, Applies, IsOversized, IsRefused, id_in, with_rowid, Null, Database, IsDatabase, lacks_sequence, State, HasCleanDisk, Savepoint, ExecutesInside, FailsToQuery, Shown, Enforced, Refers, Has, Index, Group, shared_by, TableFault, Memory, Storage, Entering, InPlace, New}
use Rattle.std.specs.declared.cmp.Ordering.{Ordering}
use Rattle.sqlite_disk.specs.Disk.{MoreFaults}
use Rattle.sqlite.specs.Rowids.TheVariants.{Chosen}
use Rattle.sqlite_schema.specs.declared.schema.Among.TheVariants.{All}
use Rattle.sqlite_rules.specs.declared.error.Refusal.{Refusal}
use Rattle.sqlite_catalog.specs.Change.{KeepsRows, automatics, created, is_used, next_tree}
use Rattle.sql_tables.specs.Faults.{fault_of}
use Rattle.sql_tables.specs.Table.{Lists, Place, cells, laid_out, table_at}
use Rattle.sql_tables.specs.Writes.{IsInert, begins_with, goes_on}
use Rattle.sql_tables.specs.Keyed.{IsKeyed, Stands, have_ids, rises}

-- what a connection shows at a moment, and what it counts
pub record Moment : Type 0 where
  pub now : Database
  pub committed : Database
  pub in_transaction : Bool
  pub marks : List Savepoint
  pub is_open : Bool
  pub faults : ℕ
  pub changes : ℕ
  pub last_rowid : ℤ
  pub step_limit : Option ℕ

-- a connection that shows this
abbrev pub at_moment : Moment → State
at_moment m = record {
  now = m.now;
  committed = m.committed;
  in_transaction = m.in_transaction;
  marks = m.marks;
  is_open = m.is_open;
  is_clean = true;
  faults = m.faults;
  blamed = None;
  changes = m.changes;
  last_rowid = m.last_rowid;
  step_limit = m.step_limit;
  may_leave = λ _. ⊥;
  IsShielded = ⊥;
}

-- the edit that adds a row
abbrev pub adding : AnyTable → Row → Trees → Edit
adding table given trees = record { table = table; gone = []; news = with_rowid Chosen (trees table.tree) (laid_out Null table.key given) ∷ [] }

-- the one that takes rows of a table out, and puts others in
abbrev pub changing : AnyTable → List Row → List Row → Edit
changing table found news = record { table = table; gone = map (λ r. id_in (rowid r)) found; news = news }

-- the row that takes the place of another
abbrev pub replacing : AnyTable → Row → Row → Row
replacing table given old = rowid old ∷ drop 1 (laid_out Null table.key given)

-- This holds of the edit that adds the row, where the table is listed.
abbrev pub OfRow : (Place → AnyTable) → Row → (Edit → Type 0) → Database → Type 0
OfRow table given P db = (place : Place) → Lists db.schema (table place) → P (adding (table place) given db.trees)

-- This holds of the edit by which these come for the rows that pass, in some order, where the table stands and no foreign key acts on it.
abbrev pub OfChange : (Place → AnyTable) → (Row → Bool) → (AnyTable → List Row → List Row) → (Edit → Type 0) → Database → Type 0
OfChange table goes comes P db =
    (place : Place) (rows : List Row) → IsInert db.schema place.tree → Stands table place rows db
    → (found : List Row) × IsPermutation (filter (λ r. goes (cells (table place) r)) (db.trees place.tree)) found × P (changing (table place) found (comes (table place) found))

-- of the edit that brings a row into its table so
abbrev pub OfEntry : Entering → (Place → AnyTable) → Row → Row → (Edit → Type 0) → Database → Type 0
OfEntry New table key given = OfRow table given
OfEntry InPlace table key given = OfChange table (begins_with key) (λ t. map (replacing t given))

-- of the one that takes the rows of a group out
abbrev pub OfLeaving : Group → Row → (Edit → Type 0) → Database → Type 0
OfLeaving group key = let s = shared_by group in OfChange (table_at s.0) (goes_on s.1 key) (λ _ _. [])

-- rows of the table can be found: no limit of steps is set, and the table is the first in its tree
abbrev pub CanFind : (Place → AnyTable) → Option ℕ → Database → Type 0
CanFind table limit db =
    (limit ≡ None) × IsDatabase db × ((place : Place) → Lists db.schema (table place) → find (λ t. t.tree == place.tree) db.schema.tables ≡ Some (table place))

-- the row can come into the table so, for all that is known without its edit
abbrev pub CanEnter : Entering → (Place → AnyTable) → Option ℕ → Database → Type 0
CanEnter New table limit db = limit ≡ None
CanEnter InPlace table limit db = CanFind table limit db

-- the edit was made: a database is left, with the same schema
abbrev pub IsMade : Database → Database → Edit → Type 0
IsMade db now edit = IsDatabase now × (now.schema ≡ db.schema) × Applies db.schema Enforced db.trees edit now.trees

-- it is refused by a rule of the schema, a row of it is too large to be stored, or once it is made a row lacks its parent
abbrev pub IsRefusedIn : Database → Edit → Type 0
IsRefusedIn db edit =
    ((why : Refusal) × IsRefused db.schema Enforced db.trees edit why)
    ⊎ (((row : Row) × Has edit.news row × IsOversized db.schema edit.table row) ⊎ ((next : Trees) × Applies db.schema Enforced db.trees edit next × (Refers All db.schema next → ⊥)))

-- the table was made, where no table counts its rowids without counters
abbrev pub IsTableMade : AnyTable → Database → Database → Type 0
IsTableMade table db now =
    lacks_sequence (created db.schema table) ≡ false → IsDatabase now × (now.schema ≡ created db.schema table) × (now.trees (next_tree db.schema) ≡ []) × KeepsRows db.schema.tables db.trees now.trees

-- The table is not made: its name or that of an index of it is used, there is no room for its trees, or some table counts its rowids and
-- the schema has no counters.
abbrev pub IsUnmade : AnyTable → Database → Type 0
IsUnmade table db =
    (is_used db.schema table.name ≡ true) ⊎ (((index : Index) × Has (automatics table 0 0 table.uniques) index × (is_used db.schema index.name ≡ true))
    ⊎ ((65536 ≤ next_tree db.schema + length table.uniques) ⊎ (lacks_sequence (created db.schema table) ≡ true)))

-- rows in the order of their rowids
abbrev pub by_rowid : Row → Row → Ordering
by_rowid a b = value_cmp (rowid a) (rowid b)

-- a query of this text showed these rows, which are put in the order of their rowids here
pub record ShowsInOrder (sql : List ℕ) (rows : List Row) (old new : State) : Type 0 where
  pub seen : List Row
  pub shown : Shown sql [] old new seen
  pub same : IsPermutation seen rows
  pub sorted : IsSorted by_rowid rows

-- where the table is listed, and first in its tree, its rowids are no integers, or two of them are one
abbrev pub IsUnread : (Place → AnyTable) → Option ℕ → Database → Type 0
IsUnread table limit db = CanFind table limit db → (place : Place) → Lists db.schema (table place) → IsKeyed (db.trees place.tree) → ⊥

-- a query failed with an error that is this fault, or it showed rows that their rowids do not distinguish
abbrev pub FailsToRead : List ℕ → TableFault → State → State → Type 0
FailsToRead sql fault old new =
    ((e : Error) × FailsToQuery sql [] old new e × (fault ≡ fault_of e)) ⊎ ((rows : List Row) × ShowsInOrder sql rows old new × (have_ids rows && rises rows ≡ false) × (fault ≡ Storage))

-- a statement of this text failed with an error that is this fault
abbrev pub FailsToWrite : List ℕ → Row → TableFault → State → State → Type 0
FailsToWrite sql params fault old new = (e : Error) × ExecutesInside 0 sql params old new (Err e) × (fault ≡ fault_of e)

-- a statement ran out of memory, before which nothing was committed
pub record LacksMemory (old new : State) : Type 0 where
  pub between : Moment
  pub kept : between.committed ≡ old.committed
  pub sql : List ℕ
  pub params : Row
  pub fails : FailsToWrite sql params Memory (at_moment between) new

-- Why a call from the one state to the other fails, for another cause than running out of memory: the connection is shut, the disk has
-- failed or refused once more, or the call is hindered in this way.
pub record IsStopped (Hinders : Option ℕ → Database → Type 0) (old new : State) : Type 0 where
  pub why : (old.is_open ≡ false) ⊎ (MoreFaults old.faults new.faults ⊎ Hinders old.step_limit old.now)

-- where a call answers this error, this is why, unless the disk gave back other bytes than it was given
abbrev pub IsCaused : {A E : Type 0} → E → (Option ℕ → Database → Type 0) → Result A E → State → State → Type 0
IsCaused storage Hinders result old new = HasCleanDisk new → result ≡ Err storage → IsStopped Hinders old new

-- the same of a call in a transaction
abbrev pub IsCausedInside : {A : Type 0} → (Option ℕ → Database → Type 0) → Result A TableFault → State → State → Type 0
IsCausedInside Hinders result old new = old.in_transaction ≡ true → IsCaused Storage Hinders result old new

-- where a call in a transaction returns out of memory, it is that of a statement, unless the disk gave back other bytes than it was given
abbrev pub IsStarvedInside : {A : Type 0} → Result A TableFault → State → State → Type 0
IsStarvedInside result old new = HasCleanDisk new → old.in_transaction ≡ true → result ≡ Err Memory → LacksMemory old new
