-- Tables that refuse no valid request for the database's own reasons, one request after another.
use Rattle.std.specs.Prelude.{◌≡◌, ◌⊎◌, ◌≤◌, ◌<◌, ◌*◌, ◌^◌, ℕ, zero, suc, IsTrue, None, Result}
use Rattle.sqlite.specs.Effect.{Database, IsDatabase}
use Rattle.sqlite.specs.Held.{Held, state}
use Rattle.sqlite.specs.State.{HasCleanDisk, IsLive}
use Rattle.sqlite_trees.specs.declared.store.Store.{Ghosts}
use Rattle.office_model.specs.declared.refusal.Refusal.{Refusal}
use Rattle.office_model.specs.declared.refusal.Refusal.TheVariants.{Storage}
use Rattle.office_model.specs.declared.request.Reply.{Reply}
use Rattle.office_model.specs.declared.request.Request.{Request}
use Rattle.sql_tables.specs.Causes.{IsCaused}
use Rattle.sql_tables.specs.Ours.{HasRoom, IsOurs}
use Rattle.store.specs.Causes.{IsHinderedOpening}
use Rattle.store.specs.Laws.{nothing_made}
use Rattle.desk.specs.DeskState.{DeskState, IsOpened}
use Rattle.desk.specs.Laws.{IsAsked}

module _ {S : Type 0} (ghosts : Ghosts S) where
  -- No limit is set on the steps of a statement. Where the connection is open on a clean disk, its tables are as they are made here, with
  -- rowids left for this many requests.
  pub record IsReady (requests : ℕ) (desk : DeskState S) : Type 0 where
    pub unlimited : (state ghosts desk.store).step_limit ≡ None
    pub ready : HasCleanDisk (state ghosts desk.store) → IsTrue (state ghosts desk.store).is_open
        → IsOurs (state ghosts desk.store).now × HasRoom (requests * 2 ^ 20) (state ghosts desk.store).now

  -- the storage has failed only where the connection was shut, or by a fault of the disk
  abbrev pub IsAvailable : DeskState S → Result Reply Refusal → DeskState S → Type 0
  IsAvailable before answer after = IsCaused Storage (λ _ _. ⊥) answer (state ghosts before.store) (state ghosts after.store)

  -- where a desk is ready for one request more than these, that one finds it available, and leaves it ready for these
  abbrev pub AskLasts : Type 0
  AskLasts = (requests : ℕ) → suc requests ≤ 2 ^ 40 → (old new : DeskState S) (request : Request) (answer : Result Reply Refusal)
      → IsReady (suc requests) old → IsAsked ghosts old request answer new → IsAvailable old answer new × IsReady requests new

  -- an office was opened at this desk, of a database that is sound and over a connection that sets no limit on steps
  pub record IsOpenedOver (first : Held S) (desk : DeskState S) : Type 0 where
    pub sound : IsDatabase (state ghosts first).now
    pub unlimited : (state ghosts first).step_limit ≡ None
    pub opened : IsOpened ghosts first desk
    pub live : IsLive (state ghosts desk.store)

  -- it was made here: of a database in which nothing was made
  abbrev pub IsMadeHere : DeskState S → Type 0
  IsMadeHere desk = (first : Held S) × ((state ghosts first).now.schema ≡ nothing_made) × IsOpenedOver first desk

  -- what is found of a desk after its connection was closed, or broke off: the trees of its tables
  pub record IsFound (desk : DeskState S) (found : Database) : Type 0 where
    pub clean : HasCleanDisk (state ghosts desk.store)
    pub was_open : IsTrue (state ghosts desk.store).is_open
    pub sound : IsDatabase found
    pub trees : found.trees ≡ (state ghosts desk.store).now.trees

  -- the desk is the one that was left, or one at which what is found of it was opened
  abbrev pub IsThereAgain : DeskState S → DeskState S → Type 0
  IsThereAgain desk at = (at ≡ desk) ⊎ ((first : Held S) × IsFound desk (state ghosts first).now × IsOpenedOver first at)

  -- an office that was made here was asked this many requests, with openings between them
  abbrev pub HasServed : ℕ → DeskState S → Type 0
  HasServed zero desk = IsMadeHere desk
  HasServed (suc count) desk =
      (before at : DeskState S) × HasServed count before × IsThereAgain before at × (request : Request) × (answer : Result Reply Refusal) × IsAsked ghosts at request answer desk

  -- Over fewer than 2^40 requests each finds the office available, and no statement of an opening between them is refused.
  abbrev pub OfficeLasts : Type 0
  OfficeLasts = (count : ℕ) → count < 2 ^ 40 → (desk : DeskState S) → HasServed count desk
      → ((at new : DeskState S) (request : Request) (answer : Result Reply Refusal) → IsThereAgain desk at → IsAsked ghosts at request answer new → IsAvailable at answer new)
      × ((found : Database) → IsFound desk found → IsHinderedOpening None found → ⊥)
