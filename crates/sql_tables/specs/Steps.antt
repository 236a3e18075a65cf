-- What a statement, a transaction and a crash do, under a relation P between the database before and after.
use Rattle.std.specs.Prelude.{◌≡◌, ◌^◌, ℕ, IsTrue, true, false, List, map, drop, nat_lt, Option, Result, IfOk}
use Rattle.sql_tables.specs.Common.{Database, IsDatabase, State, HasCleanDisk, KeepsCommit, Survives, IsUnchanged, Sees, Row, AnyTable as Table, Trees, Held, state, Ghosts, TableFault}
use Rattle.sql_tables.specs.Table.{Place, Lists}
use Rattle.sql_tables.specs.Keyed.{Stands}
use Rattle.sql_tables.specs.Causes.{IsCaused, IsCausedInside, IsStarvedInside}
use Rattle.sql_tables.specs.Outcomes.{Outcome}

-- a statement in a transaction went through: nothing is committed, and what the transaction sees changed by P, and is a database
pub record HasStepped (P : Database → Database → Type 0) (old new : State) : Type 0 where
  pub inside : old.in_transaction ≡ true
  pub shown : Sees old new new.now old.committed true
  pub sound : IsDatabase new.now
  pub step : P old.now new.now

-- a transaction was made and committed, and changed the database by P
pub record HasSaved (P : Database → Database → Type 0) (old new : State) : Type 0 where
  pub shown : Sees old new new.now new.now false
  pub step : P old.now new.now

-- nothing has changed, unless the connection is shut, as it was before or by a fault of the disk
abbrev pub IsKept : State → State → Type 0
IsKept old new = IsTrue new.is_open → IsTrue old.is_open × (new.now ≡ old.now) × (new.committed ≡ old.committed)

-- the trees of a database that P makes of the one that an open connection shows; a shut one leaves none
pub record MayRecoverTo (P : Database → Database → Type 0) (old : State) (trees : Trees) : Type 0 where
  pub was_open : IsTrue old.is_open
  pub db : Database
  pub sound : IsDatabase db
  pub step : P old.now db
  pub same : trees ≡ db.trees

-- nothing has changed, and where the table is listed these are its rows, each after its rowid
pub record Shows (table : Place → Table) (rows : List Row) (old new : State) : Type 0 where
  pub same : IsUnchanged old new
  pub stands : (place : Place) → Lists old.now.schema (table place) → nat_lt place.tree (2 ^ 31) ≡ true → Stands table place (map (drop 1) rows) old.now

-- where no transaction was open nothing has changed, unless a fault of the disk has shut the connection
abbrev pub Rests : State → State → Type 0
Rests old new = IsTrue new.is_open → IsTrue old.is_open × (old.now ≡ old.committed → (new.now ≡ old.now) × (new.committed ≡ old.committed))

-- A call that reads changes nothing, leaves no transaction open, and a crash leaves what it left before. Where it answers this error, the
-- connection is shut, the disk has failed, or the call is hindered in this way.
pub record IsReading {A E : Type 0} (storage : E) (Hinders : Option ℕ → Database → Type 0) (result : Result A E) (old new : State) : Type 0 where
  pub rests : HasCleanDisk new → Rests old new
  pub cause : IsCaused storage Hinders result old new
  pub ended : old.in_transaction ≡ false → new.in_transaction ≡ false
  pub survives : Survives old new (λ _. ⊥)

-- A call in a transaction commits nothing. Where it answers it did this, unless the disk has failed. Where it returns out of memory, a
-- statement was; and where it returns another fault, the connection is shut, the disk has failed, or the call is hindered in this way.
pub record IsPart {A : Type 0} (Did : A → State → State → Type 0) (Hinders : Option ℕ → Database → Type 0) (result : Result A TableFault) (old new : State) : Type 0 where
  pub survives : Survives old new (λ _. ⊥)
  pub did : HasCleanDisk new → IfOk result (λ a. Did a old new)
  pub kept : HasCleanDisk new → KeepsCommit old new
  pub starved : IsStarvedInside result old new
  pub cause : IsCausedInside Hinders result old new

-- so it is of a statement that comes to this
abbrev pub Steps : {S : Type 0} → Ghosts S → Outcome → Result (Unit {0}) TableFault → Held S → Held S → Type 0
Steps ghosts outcome result old new = IsPart (λ _. HasStepped outcome.does) outcome.hinders result (state ghosts old) (state ghosts new)
