-- How a request that was asked leaves the tables.
use Rattle.std.specs.Prelude.{◌≡◌, ◌^◌, IsTrue, IsErr, OnOk, None, false, Result}
use Rattle.sqlite.specs.State.{State as Seen, HasCleanDisk, Survives}
use Rattle.office_model.specs.State.{State}
use Rattle.office_model.specs.declared.refusal.Refusal.{Refusal}
use Rattle.office_model.specs.declared.refusal.Refusal.TheVariants.{Storage}
use Rattle.office_model.specs.declared.request.Reply.{Reply}
use Rattle.office_model.specs.declared.request.Request.{Request}
use Rattle.office_model.specs.Reads.{changes_nothing}
use Rattle.sql_tables.specs.Causes.{IsCaused}
use Rattle.sql_tables.specs.Steps.{MayRecoverTo}
use Rattle.store.specs.Available.{AreReady, LeavesRoom}
use Rattle.store.specs.Saving.{AreActedOn}
use Rattle.sql_tables.specs.Ours.{IsOurs}
use Rattle.store.specs.Tables.{LeavesAlone}
use Rattle.desk.specs.Causes.{IsHinderedToAsk}
use Rattle.desk.specs.Keeping.{CarriesOut, StandsForOne}

-- The tables of the one state become those of the other by a request to the office, which got this answer.
pub record IsSaved (office : State) (request : Request) (answer : Result Reply Refusal) (old new : Seen) : Type 0 where
  -- a crash leaves what it could leave before, or, where the connection was open, the tables of an office that the request makes
  pub crash : Survives old new (MayRecoverTo (λ _. StandsForOne (CarriesOut office request)) old)
  -- after an answered change it leaves the tables after it alone, and the connection is open, so that they stand for the office
  pub alone : changes_nothing office request ≡ false → HasCleanDisk new → OnOk answer (LeavesAlone new)
  pub stays_open : changes_nothing office request ≡ false → HasCleanDisk new → OnOk answer (IsTrue new.is_open)
  -- a connection that is shut stays shut
  pub stays_shut : HasCleanDisk new → IsTrue new.is_open → IsTrue old.is_open
  -- where a foreign key would write other rows too, no change is made
  pub acted_on : changes_nothing office request ≡ false → AreActedOn old.now.schema → IsErr answer
  -- why the storage has failed, except for a foreign key: a shut connection, a fault of the disk, or a refused statement of the changes
  -- that the request makes
  pub cause : (AreActedOn old.now.schema → ⊥) → IsCaused Storage (IsHinderedToAsk office request) answer old new
  -- over tables as they are made here, with rowids left, only a shut connection or a fault of the disk
  pub available : old.step_limit ≡ None → AreReady old.now → IsCaused Storage (λ _ _. ⊥) answer old new
  -- tables as they are made here stay so, and the request takes no more rowids than it was asked to leave
  pub ours : IsOurs old.now → HasCleanDisk new → IsTrue new.is_open → IsOurs new.now × LeavesRoom (2 ^ 20) old.now new.now
