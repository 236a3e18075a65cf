-- For proofs alone. What a statement, a transaction and a crash do, under a relation P between the database before and after.
use Rattle.std.specs.Prelude.{◌≡◌, ◌⊎◌, ℕ, true, List, [], Result, Ok}
use Rattle.sql_tables.specs.Common.{Database, IsDatabase, State, Executes, Shown, FailsToQuery, Sees, Error, Row, Held, state, Ghosts, TableFault, ℤ, rowid, id_in}
use Rattle.sql_tables.specs.Outcomes.{Outcome}
use Rattle.sql_tables.specs.Steps.{IsPart}
use Rattle.sql_tables.specs.Inside.Causes.{IsHindered}

-- the statement of this text went through in a transaction, over this many rows: nothing is committed
pub record HasRun (sql : List ℕ) (params : Row) (count : ℕ) (old new : State) : Type 0 where
  pub inside : old.in_transaction ≡ true
  pub shown : Sees old new new.now old.committed true
  pub ran : Executes sql params old new (Ok count)

-- the same of a run of statements, which may be none
pub record Stays (P : Database → Database → Type 0) (old new : State) : Type 0 where
  pub shut : new.is_open ≡ old.is_open
  pub committed : new.committed ≡ old.committed
  pub mode : new.in_transaction ≡ old.in_transaction
  pub sound : IsDatabase old.now → IsDatabase new.now
  pub step : P old.now new.now

-- so it is of statements that come to this, of which there may be none
abbrev pub Runs : {S : Type 0} → Ghosts S → Outcome → Result (Unit {0}) TableFault → Held S → Held S → Type 0
Runs ghosts outcome result old new = IsPart (λ _. Stays outcome.does) outcome.hinders result (state ghosts old) (state ghosts new)

-- so it is of a statement of this text
abbrev pub IsWritten : {S : Type 0} → Ghosts S → List ℕ → Row → Result ℕ TableFault → Held S → Held S → Type 0
IsWritten ghosts sql params result old new = IsPart (HasRun sql params) (IsHindered sql params) result (state ghosts old) (state ghosts new)

-- a query was run, or failed
abbrev pub RanQuery : List ℕ → State → State → Type 0
RanQuery sql old new = ((rows : List Row) × Shown sql [] old new rows) ⊎ ((e : Error) × FailsToQuery sql [] old new e)

-- the rowid as a number
abbrev pub id_of : Row → ℤ
id_of r = id_in (rowid r)
