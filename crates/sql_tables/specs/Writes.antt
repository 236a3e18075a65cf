-- What a statement does to the rows of its table, and that it does nothing else.
use Rattle.std.specs.Prelude.{◌≡◌, ◌≢◌, ◌∷◌, ◌&&◌, if◌then◌else◌, [], List, Bool, true, ℕ, filter, map, drop, not}
use Rattle.sql_tables.specs.Common.{AllByRecursion, Row, column, Binary, AnyTable, Schema, Database, equal, Enforced, Group, shared_by, Entering, InPlace, New}
use Rattle.sqlite_rules.specs.Action.{works}
use Rattle.sql_tables.specs.Table.{Place, Rules, Lists, table_at}
use Rattle.sql_tables.specs.Keyed.{Stands}
use Rattle.sql_tables.specs.Inert.{IsActedOn}

-- the schema is as it was, and of its tables at most the one of this tree has changed
pub record WritesOnly (tree : ℕ) (old new : Database) : Type 0 where
  pub schema : new.schema ≡ old.schema
  pub others : AllByRecursion (λ t. t.tree ≢ tree → new.trees t.tree ≡ old.trees t.tree) old.schema.tables

-- no foreign key acts where rows of the tree are taken out or replaced
abbrev pub IsInert : Schema → ℕ → Type 0
IsInert schema tree = (olds news : List Row) → works schema Enforced 0 tree olds news ≡ []

-- A table more, by these rules, which say whether it is STRICT, which references name their columns, and its CHECK rules; it holds these
-- rows, while the tables that the schema had are listed as before, with their rows, and no further foreign key acts on them.
pub record Creates (table : Place → AnyTable) (rules : Rules) (rows : List Row) (old new : Database) : Type 0 where
  pub place : Place
  pub ruled : place.rules ≡ rules
  pub stands : Stands table place rows new
  pub others : (t : AnyTable) → Lists old.schema t → Lists new.schema t × (new.trees t.tree ≡ old.trees t.tree) × (t.tree ≢ place.tree)
  pub quiet : (t : AnyTable) → Lists old.schema t → IsActedOn new.schema.tables t.tree → IsActedOn old.schema.tables t.tree

-- where no foreign key acts on the table, its rows become what f makes of them, and nothing else changes
abbrev pub TransformsRows : (Place → AnyTable) → (List Row → List Row) → Database → Database → Type 0
TransformsRows table f old new = (place : Place) (rows : List Row) → IsInert old.schema place.tree → Stands table place rows old → Stands table place (f rows) new × WritesOnly place.tree old new

-- the row begins with these values, as SQL compares them
abbrev pub begins_with : Row → Row → Bool
begins_with [] row = true
begins_with (value ∷ key) row = equal Binary (column row 0) value && begins_with key (drop 1 row)

-- after this many of its columns the row goes on with these values
abbrev pub goes_on : ℕ → Row → Row → Bool
goes_on before key row = begins_with key (drop before row)

-- the rows with this one in the place of each that has its key
abbrev pub with_row : Row → Row → List Row → List Row
with_row key given = map (λ row. if begins_with key row then given else row)

-- a row more in this table, and nothing else
abbrev pub Adds : (Place → AnyTable) → Row → Database → Database → Type 0
Adds table row old new = (place : Place) (rows : List Row) → Stands table place rows old → Stands table place (row ∷ rows) new × WritesOnly place.tree old new

-- the rows that pass this test are gone
unfoldable pub Removes : (Place → AnyTable) → (Row → Bool) → Database → Database → Type 0
Removes table goes = TransformsRows table (filter (λ row. not (goes row)))

-- the rows of a group that have these values in the columns that they share are gone
abbrev pub Leaves : Group → Row → Database → Database → Type 0
Leaves group key = let s = shared_by group in Removes (table_at s.0) (goes_on s.1 key)

-- each row with this key is replaced by the given one
unfoldable pub Puts : (Place → AnyTable) → Row → Row → Database → Database → Type 0
Puts table key given = TransformsRows table (with_row key given)

-- what the statement does that brings a row into its table so
abbrev pub Enters : Entering → (Place → AnyTable) → Row → Row → Database → Database → Type 0
Enters InPlace table key row = Puts table key row
Enters New table key row = Adds table row
