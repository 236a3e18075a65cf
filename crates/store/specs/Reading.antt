-- What the rows that are read from the tables say.
use Rattle.std.specs.Prelude.{◌≢◌, List}
use Rattle.store.specs.Common.{Database, State, IsFit, Table, EditionTable as Edition, Edition as AnEdition, Schema, Place, Lists, table_at}
use Rattle.store.specs.Editions.{beyond, rolls_of}
use Rattle.store.specs.Rows.{IsAmong}
use Rattle.store.specs.Tables.{HasNoneOf, StandsIn}

-- the edition's table and these are listed with their columns and rules, each in a tree of its own
pub record AreAllListed (tables : List Table) (schema : Schema) : Type 0 where
  pub edition : Place
  pub places : Table → Place
  pub edition_apart : (table : Table) → IsAmong tables table → (places table).tree ≢ edition.tree
  pub apart : (a b : Table) → IsAmong tables a → IsAmong tables b → a ≢ b → (places a).tree ≢ (places b).tree
  pub edition_listed : Lists schema (table_at Edition edition)
  pub rolls_listed : (table : Table) → IsAmong tables table → Lists schema (table_at table (places table))

-- the tables of some edition are, and no table has the name of one of a later edition
abbrev pub AreListed : Schema → Type 0
AreListed schema = (e : AnEdition) × AreAllListed (rolls_of e) schema × HasNoneOf (beyond e) schema

-- the tables stand for no fit office in an edition
abbrev pub IsUnfitIn : AnEdition → Database → Type 0
IsUnfitIn e db = (office : State) → IsFit office → StandsIn e db office → ⊥

-- nor in any
abbrev pub IsDamaged : Database → Type 0
IsDamaged db = (e : AnEdition) → IsUnfitIn e db
