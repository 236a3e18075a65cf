-- What the statements of the tables come to, one by one and one after another.
use Rattle.std.specs.Prelude.{◌≡◌, ◌⊎◌, ◌∷◌, ℕ, List, [], Option}
use Rattle.sql_tables.specs.Common.{Database, Group, Table, Cells, key_in, shared_by, Entering}
use Rattle.sql_tables.specs.Causes.{CanFind, CanEnter, IsMade, IsRefusedIn, IsTableMade, IsUnmade, OfEntry, OfLeaving}
use Rattle.sql_tables.specs.Table.{made_here, rules_of, table_at, values}
use Rattle.sql_tables.specs.Writes.{Creates}

-- what is done where it goes through, and what hinders it, where no limit of steps is set or this one
pub record Outcome : Type 1 where
  pub does : Database → Database → Type 0
  pub hinders : Option ℕ → Database → Type 0

-- one thing and then another: the first is hindered, or the other once the first is done
abbrev pub followed_by : Outcome → Outcome → Outcome
followed_by first other = record {
  does = λ old new. (between : Database) × first.does old between × other.does between new;
  hinders = λ limit db. first.hinders limit db ⊎ ((between : Database) × first.does db between × other.hinders limit between);
}

-- each of these, one after another
abbrev pub each_of : {X : Type 0} → (X → Outcome) → List X → Outcome
each_of outcome [] = record { does = λ old new. new ≡ old; hinders = λ limit db. ⊥ }
each_of outcome (x ∷ more) = followed_by (outcome x) (each_of outcome more)

-- the same of what is known to be so
abbrev pub of_known : Type 0 → Outcome → Outcome
of_known Known outcome = record { does = λ old new. Known × outcome.does old new; hinders = outcome.hinders }

-- the table is made
abbrev pub making : Table → Outcome
making table = record { does = λ old new. Creates (table_at table) (rules_of table) [] old new × IsTableMade (made_here table 0) old new; hinders = λ limit. IsUnmade (made_here table 0) }

-- a row comes into its table so
abbrev pub entry : Entering → Table → Cells → Outcome
entry way table row = record {
  does = λ old new. OfEntry way (table_at table) (values (key_in table row)) (values row) (IsMade old new) old;
  hinders = λ limit db. CanEnter way (table_at table) limit db → OfEntry way (table_at table) (values (key_in table row)) (values row) (IsRefusedIn db) db;
}

-- the rows of a group go
abbrev pub leaving : Group → Cells → Outcome
leaving group key = record {
  does = λ old new. OfLeaving group (values key) (IsMade old new) old;
  hinders = λ limit db. CanFind (table_at (let s = shared_by group in s.0)) limit db → OfLeaving group (values key) (IsRefusedIn db) db;
}
