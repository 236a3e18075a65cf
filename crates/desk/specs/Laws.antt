-- What is opened after a crash.
use Rattle.std.specs.Prelude.{◌≡◌, ◌⊎◌, false, IsTrue, IsOk, List, [], ◌∷◌, Result}
use Rattle.sqlite.specs.Effect.{Database, IsDatabase}
use Rattle.sqlite.specs.State.{HasCleanDisk, IsLive, Survives}
use Rattle.sqlite.specs.Held.{state}
use Rattle.sqlite_trees.specs.declared.store.Store.{Ghosts}
use Rattle.office_model.specs.declared.refusal.Refusal.{Refusal}
use Rattle.office_model.specs.declared.request.Reply.{Reply}
use Rattle.office_model.specs.declared.request.Request.{Request}
use Rattle.office_model.specs.State.{State}
use Rattle.office_model.specs.Fit.{IsFit}
use Rattle.office_model.specs.Reads.{changes_nothing}
use Rattle.office_model.specs.Run.{Step}
use Rattle.desk.specs.layers.Layers.{layers}
use Rattle.sql_tables.specs.Steps.{MayRecoverTo}
use Rattle.store.specs.Reading.{IsDamaged}
use Rattle.store.specs.Tables.{LeavesAlone, Opens, StandsFor}
use Rattle.desk.specs.DeskState.{DeskState}
use Rattle.desk.specs.Keeping.{Begins, CarriesOut, Keeps, StandsForOne}
use Rattle.desk.specs.Saved.{IsSaved}

-- one of these requests, carried out, makes of the office this one
abbrev pub OneMakes : State → List Request → State → Type 0
OneMakes office [] left = ⊥
OneMakes office (request ∷ requests) left = CarriesOut office request left ⊎ OneMakes office requests left

-- the office itself, or one that one of these requests, carried out, makes of it
abbrev pub IsOneOf : State → List Request → State → Type 0
IsOneOf office requests left = (left ≡ office) ⊎ OneMakes office requests left

-- What is pending after a request is what a crash may still carry out. After a change that was answered nothing is; after any other
-- request, which leaves the office as it was, that request and what was pending before it.
abbrev pub Pends : State → Request → Result Reply Refusal → State → List Request → List Request → Type 0
Pends office request answer next before after =
    ((changes_nothing office request ≡ false) × IsOk answer × (after ≡ [])) ⊎ ((next ≡ office) × (after ≡ request ∷ before))

module _ {S : Type 0} (ghosts : Ghosts S) where
  -- The connection is open on a clean disk, its tables stand for the office, and a crash leaves what is seen and nothing else. So it is
  -- after an opening, and after an answered change.
  pub record IsAtRest (desk : DeskState S) : Type 0 where
    pub is_open : IsTrue (state ghosts desk.store).is_open
    pub sound : IsDatabase (state ghosts desk.store).now
    pub stands : StandsFor (state ghosts desk.store).now desk.office
    pub fit : IsFit desk.office
    pub alone : LeavesAlone (state ghosts desk.store)

  -- after a crash that finds the desk so, this office is opened
  pub record IsOpenedAfter (desk : DeskState S) (office : State) : Type 0 where
    pub clean : HasCleanDisk (state ghosts desk.store)
    pub found : Database
    pub sound : IsDatabase found
    pub left : (state ghosts desk.store).may_leave found.trees
    pub opened : Database
    pub opens : Opens found opened office
    pub fit : IsFit office

  -- a desk at rest is opened again as its office
  abbrev pub RestIsKept : Type 0
  RestIsKept = (desk : DeskState S) (office : State) → IsAtRest desk → IsOpenedAfter desk office → office ≡ desk.office

  -- after a crash that finds the desk so its office is opened, or one that one of these requests makes of it
  abbrev pub LeavesOneOf : List Request → DeskState S → Type 0
  LeavesOneOf requests desk = (office : State) → IsOpenedAfter desk office → IsOneOf desk.office requests office

  -- After one request the office before is opened, or one that the request, carried out, makes of it. Where a crash before it could leave
  -- more, since other requests were refused before, it still can.
  abbrev pub AskIsWhole : Type 0
  AskIsWhole = (old new : DeskState S) (refused : List Request) (request : Request) → LeavesOneOf refused old
      → Survives (state ghosts old.store) (state ghosts new.store) (MayRecoverTo (λ _. StandsForOne (CarriesOut old.office request)) (state ghosts old.store))
      → (office : State) → IsOpenedAfter new office → IsOneOf old.office (request ∷ refused) office

  -- after a run the office before is opened, or what a crash before it could leave, or one that some beginning of the run makes of it
  abbrev pub RunIsWhole : Type 0
  RunIsWhole = (old new : DeskState S) (refused requests : List Request) (answers : List (Result Reply Refusal)) → LeavesOneOf refused old
      → Survives (state ghosts old.store) (state ghosts new.store) (MayRecoverTo (λ _. StandsForOne (Begins old.office requests answers)) (state ghosts old.store))
      → (office : State) → IsOpenedAfter new office → IsOneOf old.office refused office ⊎ Begins old.office requests answers office

  -- A request was asked at a desk and got this answer. The tables stand for the fit office after it.
  pub record IsAsked (before : DeskState S) (request : Request) (answer : Result Reply Refusal) (after : DeskState S) : Type 0 where
    pub step : Step layers before.office request answer after.office
    pub saved : IsSaved before.office request answer (state ghosts before.store) (state ghosts after.store)
    pub stands : Keeps (state ghosts after.store) after.office
    pub live : IsLive (state ghosts after.store)
    pub fit : IsFit after.office

  -- from a desk at rest on these requests were asked, the last one first, with these answers; so these are pending
  abbrev pub IsReached : List Request → List (Result Reply Refusal) → List Request → DeskState S → Type 0
  IsReached [] [] pending desk = (pending ≡ []) × IsAtRest desk
  IsReached (request ∷ requests) (answer ∷ answers) pending desk =
      (before : DeskState S) × (others : List Request) × IsReached requests answers others before × IsAsked before request answer desk
      × Pends before.office request answer desk.office others pending
  IsReached [] (answer ∷ answers) pending desk = ⊥
  IsReached (request ∷ requests) [] pending desk = ⊥

  -- one request more is asked of such a desk, and then that one and what was pending are pending, or nothing
  abbrev pub AskReaches : Type 0
  AskReaches = (requests : List Request) (answers : List (Result Reply Refusal)) (pending : List Request) (old new : DeskState S) (request : Request) (answer : Result Reply Refusal)
      → IsReached requests answers pending old → IsAsked old request answer new
      → (left : List Request) × IsReached (request ∷ requests) (answer ∷ answers) left new × ((left ≡ []) ⊎ (left ≡ request ∷ pending))

  -- after a crash then the office is opened that all answered requests left, or one that a pending request makes of it
  abbrev pub AnswersStay : Type 0
  AnswersStay = (requests : List Request) (answers : List (Result Reply Refusal)) (pending : List Request) (desk : DeskState S)
      → IsReached requests answers pending desk → LeavesOneOf pending desk

  -- and the database that is found is not damaged, so it is not refused as such
  abbrev pub IsFoundWhole : Type 0
  IsFoundWhole = (requests : List Request) (answers : List (Result Reply Refusal)) (pending : List Request) (desk : DeskState S)
      → IsReached requests answers pending desk → HasCleanDisk (state ghosts desk.store) → (found : Database) → IsDatabase found
      → (state ghosts desk.store).may_leave found.trees → IsDamaged found → ⊥
