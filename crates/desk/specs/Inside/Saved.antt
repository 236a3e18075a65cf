-- For proofs alone. How changes that were saved or refused leave the tables.
use Rattle.std.specs.Prelude.{IsTrue, IsErr, List, OnOk, Result}
use Rattle.sqlite.specs.State.{State as Seen, HasCleanDisk, Survives}
use Rattle.sql_tables.specs.Causes.{IsCaused}
use Rattle.sql_tables.specs.Steps.{MayRecoverTo}
use Rattle.schema.specs.declared.row.Change.{Change}
use Rattle.office_model.specs.declared.refusal.Refusal.{Refusal}
use Rattle.office_model.specs.declared.refusal.Refusal.TheVariants.{Storage}
use Rattle.office_model.specs.declared.request.Reply.{Reply}
use Rattle.store.specs.Available.{StaysOurs}
use Rattle.store.specs.Causes.{IsHinderedAmong}
use Rattle.store.specs.Saving.{AreActedOn, Saves}
use Rattle.store.specs.Tables.{LeavesAlone}

-- The tables of the one state become those of the other by changes that were to be saved.
pub record HasSettled (changes : List Change) (answer : Result Reply Refusal) (old new : Seen) : Type 0 where
  -- a crash leaves what it could leave before, or what the changes leave
  pub crash : Survives old new (MayRecoverTo (Saves changes) old)
  -- where they are saved it leaves their tables alone, over a connection that is open
  pub alone : HasCleanDisk new → OnOk answer (LeavesAlone new)
  pub stays_open : HasCleanDisk new → OnOk answer (IsTrue new.is_open)
  -- one that is shut stays shut
  pub stays_shut : HasCleanDisk new → IsTrue new.is_open → IsTrue old.is_open
  -- where a foreign key would write other rows too, no change is made
  pub acted_on : AreActedOn old.now.schema → IsErr answer
  -- why else the storage has failed
  pub cause : (AreActedOn old.now.schema → ⊥) → IsCaused Storage (IsHinderedAmong changes) answer old new
  -- tables as they are made here stay so
  pub stays : HasCleanDisk new → IsTrue new.is_open → StaysOurs changes old.now new.now
