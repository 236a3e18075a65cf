-- What a caller sees of a desk: the office, what the connection to its tables holds, and the session that is cached, if any.
use Rattle.std.specs.Prelude.{◌≡◌, Option, None}
use Rattle.sqlite.specs.Held.{Held, state}
use Rattle.sqlite_trees.specs.declared.store.Store.{Ghosts}
use Rattle.sqlite.specs.State.{IsLive}
use Rattle.office_model.specs.State.{State}
use Rattle.office_model.specs.Fit.{IsFit}
use Rattle.solver.specs.SessionState.{SessionState}
use Rattle.store.specs.Opening.{IsOpening}
use Rattle.desk.specs.Keeping.{Keeps}

-- an office and its tables, and a session of its open round
pub record DeskState (S : Type 0) : Type 0 where
  pub office : State
  pub store : Held S
  pub session : Option SessionState

-- What is so of every desk: its tables stand for its office, which is fit, and its connection shows a database while it is open.
pub record IsInOrder {S : Type 0} (ghosts : Ghosts S) (desk : DeskState S) : Type 0 where
  pub stands : Keeps (state ghosts desk.store) desk.office
  pub fit : IsFit desk.office
  pub live : IsLive (state ghosts desk.store)

-- the desk of an office that was opened: it is in order, and no session is cached
pub record IsOpened {S : Type 0} (ghosts : Ghosts S) (old : Held S) (desk : DeskState S) : Type 0 where
  pub opening : IsOpening ghosts old desk.store desk.office
  pub in_order : IsInOrder ghosts desk
  pub no_session : desk.session ≡ None
