-- Tables as they are made here, where nothing else of a schema bears on them.
use Rattle.std.specs.Prelude.{◌≡◌, ◌<◌, ◌+◌, ◌^◌, ℕ, pos, true, List, slice_get, Some}
use Rattle.sql_tables.specs.Common.{AllByRecursion, AnyTable, IsAscending, IsTable, rowid, Database, Int, Has, same_name, Index, Reference, Table}
use Rattle.sqlite_catalog.specs.Listing.{automatic}
use Rattle.sql_tables.specs.Table.{Place, made_here, shape_of, table_at}

-- the index is one that a key of the table made
abbrev pub IsOwnIndex : AnyTable → Index → Type 0
IsOwnIndex table i = (at : ℕ) × (key : List ℕ) × (slice_get table.uniques at ≡ Some key) × (i ≡ automatic table at key i.tree)

-- Each table of the product is as it is made here, with no index but those of its keys. No two tables share a tree, and no other one
-- refers to them. Their rowids are numbers, and rise.
pub record IsOurs (db : Database) : Type 0 where
  pub made : (table : Table) (place : Place) → Has db.schema.tables (table_at table place) → table_at table place ≡ made_here table place.tree
  pub own : (table : Table) (place : Place) (i : Index) → Has db.schema.tables (table_at table place) → Has db.schema.indexes i → i.table ≡ place.tree → IsOwnIndex (made_here table place.tree) i
  pub apart : IsAscending (λ a b. a.tree ≡ b.tree → ⊥) db.schema.tables
  pub referred : (t : AnyTable) (ref : Reference) (table : Table) → Has db.schema.tables t → Has t.references ref → same_name (shape_of table).name ref.parent ≡ true → (other : Table) × (t ≡ made_here other t.tree)
  pub numbered : (table : Table) (place : Place) → Has db.schema.tables (table_at table place) → AllByRecursion (λ r. (n : ℕ) × (rowid r ≡ Int (pos n))) (db.trees place.tree)
  pub rise : (table : Table) (place : Place) → Has db.schema.tables (table_at table place) → IsTable (db.trees place.tree)

-- this many rows more can have a rowid of 64 bits
abbrev pub HasRoom : ℕ → Database → Type 0
HasRoom count db = (table : Table) (place : Place) → Has db.schema.tables (table_at table place) → AllByRecursion (λ r. (n : ℕ) → rowid r ≡ Int (pos n) → n + count < 2 ^ 63) (db.trees place.tree)
