-- When the tables of a database hold the rows of an office.
use Rattle.std.specs.Prelude.{◌≡◌, ◌≢◌, ◌⊎◌, ◌∷◌, ℕ, pos, false, List, [], map}
use Rattle.store.specs.Common.{Int, Values, Schema, AnyTable, Database, Seen, Has, rows_in, State, empty, AllRows, Table, EditionTable, Place, Lists, made_here, rules_of, shape_of, table_at, IsActedOn, Stands, is_there, Edition, Allows, rows_in_edition, IsFit}
use Rattle.sqlite.specs.Tree.{Trees}
use Rattle.store.specs.Editions.{IsEarlier, beyond, latest, number_of, rolls_of}
use Rattle.store.specs.Rows.{IsAmong, all_tables, values}

-- the one row of `edition`, with this number
abbrev pub numbered : ℕ → List Values
numbered number = (Int (pos 1) ∷ Int (pos number) ∷ []) ∷ []

-- The edition's table has this number. These tables are listed with their columns and rules, each in a tree of its own, and hold
-- these rows, in whatever order; no other table has rows. What else the schema lists is not looked at.
pub record TablesOf (tables : List Table) (number : ℕ) (db : Database) (rows : AllRows) : Type 0 where
  pub edition : Place
  pub places : Table → Place
  pub edition_apart : (table : Table) → IsAmong tables table → (places table).tree ≢ edition.tree
  pub apart : (a b : Table) → IsAmong tables a → IsAmong tables b → a ≢ b → (places a).tree ≢ (places b).tree
  pub none : (table : Table) → (IsAmong tables table → ⊥) → rows table ≡ []
  pub editions : Stands (table_at EditionTable) edition (numbered number) db
  pub rolls : (table : Table) → IsAmong tables table → Stands (table_at table) (places table) (map values (rows table)) db

-- the tables hold these rows in an edition
abbrev pub HoldIn : Edition → Database → AllRows → Type 0
HoldIn e = TablesOf (rolls_of e) (number_of e)

-- the same of the edition in which they are made
abbrev pub TablesHold : Database → AllRows → Type 0
TablesHold = HoldIn latest

-- the tables hold the rows of this office, and nothing else
abbrev pub StandsFor : Database → State → Type 0
StandsFor db office = TablesHold db (rows_in office)

-- none of these tables is there
abbrev pub HasNoneOf : List Table → Schema → Type 0
HasNoneOf tables schema = (table : Table) → Has tables table → is_there schema (shape_of table).name ≡ false

-- none of the tables of the store is there
abbrev pub HasNone : Schema → Type 0
HasNone = HasNoneOf all_tables

-- these tables are as they are made here: STRICT, with their CHECK rules, and each reference names its column
unfoldable pub AreRuledAmong : List Table → Schema → Type 0
AreRuledAmong tables schema = (table : Table) → Has tables table → (place : Place) → Lists schema (table_at table place) → table_at table place ≡ made_here table place.tree

-- so are all tables of the store
abbrev pub AreRuled : Schema → Type 0
AreRuled = AreRuledAmong all_tables

-- The tables stand for an office in an edition: they hold the rows that it has there, and nothing else; the edition allows it; and no
-- table has the name of one of a later edition.
pub record StandsIn (e : Edition) (db : Database) (office : State) : Type 0 where
  pub holds : HoldIn e db (rows_in_edition e office)
  pub allowed : Allows e office
  pub alone : HasNoneOf (beyond e) db.schema

-- none of the store's tables is listed in the tree of this one
abbrev pub IsOther : Schema → AnyTable → Type 0
IsOther schema t = (table : Table) → Has all_tables table → (place : Place) → Lists schema (table_at table place) → t.tree ≢ place.tree

-- each other table is listed as before, with its rows
unfoldable pub LeavesTables : Database → Database → Type 0
LeavesTables old new = (t : AnyTable) → Lists old.schema t → IsOther old.schema t → Lists new.schema t × (new.trees t.tree ≡ old.trees t.tree)

-- Each of these tables was made, with its rules and no rows, in a tree of its own, while the tables that the schema had are
-- listed as before, with their rows, and no further foreign key acts on them.
pub record MakesTables (tables : List Table) (old new : Database) : Type 0 where
  pub places : Table → Place
  pub ruled : (table : Table) → Has tables table → (places table).rules ≡ rules_of table
  pub stand : (table : Table) → Has tables table → Stands (table_at table) (places table) [] new
  pub apart : (a b : Table) → Has tables a → Has tables b → a ≢ b → (places a).tree ≢ (places b).tree
  pub others : (t : AnyTable) → Lists old.schema t → Lists new.schema t × (new.trees t.tree ≡ old.trees t.tree) × ((table : Table) → Has tables table → t.tree ≢ (places table).tree)
  pub quiet : (t : AnyTable) → Lists old.schema t → IsActedOn new.schema.tables t.tree → IsActedOn old.schema.tables t.tree

-- a database with none of the tables comes to stand for the empty office
pub record CreatesTables (old new : Database) : Type 0 where
  pub none : HasNone old.schema
  pub stands : StandsFor new empty
  pub ruled : AreRuled new.schema

-- tables that stood for a fit office in an earlier edition come to stand for it in the latest one
pub record Migrates (old new : Database) (office : State) : Type 0 where
  pub edition : Edition
  pub earlier : IsEarlier edition
  pub stood : StandsIn edition old office
  pub fit : IsFit office
  pub stands : StandsFor new office
  pub ruled : AreRuledAmong (beyond edition) new.schema

-- what an opening may make of a database
abbrev pub Brings : Database → Database → Type 0
Brings old new = CreatesTables old new ⊎ ((office : State) × Migrates old new office)

-- what was opened: the empty office where none of the tables was there, else the office that they stand for, in an earlier edition or in
-- the latest one, to which an earlier one is migrated
abbrev pub Opens : Database → Database → State → Type 0
Opens old new office = (HasNone old.schema × (office ≡ empty) × StandsFor new empty × AreRuled new.schema) ⊎ (((new ≡ old) × StandsFor old office) ⊎ Migrates old new office)

-- a crash leaves what is seen, and nothing else
abbrev pub LeavesAlone : Seen → Type 0
LeavesAlone s = (trees : Trees) → s.may_leave trees → trees ≡ s.now.trees
