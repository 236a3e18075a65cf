-- The persistent office of a desk: an office, and what the connection to its tables holds.
use Rattle.sqlite.specs.Held.{Held}
use Rattle.office_model.specs.State.{State}

-- an office and its tables
pub record PersistentState (S : Type 0) : Type 0 where
  pub office : State
  pub store : Held S
