-- What is left after the messages of a stream: what a crash then leaves of the office, and that it stays available.
use Rattle.std.specs.Prelude.{◌≡◌, ◌⊎◌, ◌+◌, ◌≤◌, ◌^◌, ℕ, List, [], ◌∷◌, length, Result, Ok}
use Rattle.sqlite_trees.specs.declared.store.Store.{Ghosts}
use Rattle.office_model.specs.declared.refusal.Refusal.{Refusal}
use Rattle.office_model.specs.declared.request.Reply.{Reply}
use Rattle.office_model.specs.declared.request.Request.{Request}
use Rattle.office_model.specs.State.{State}
use Rattle.desk.specs.DeskState.{DeskState}
use Rattle.desk.specs.Keeping.{CarriesOut}
use Rattle.desk.specs.Lasting.{IsAvailable, IsReady}
use Rattle.desk.specs.Laws.{IsAtRest, IsOpenedAfter}
use Rattle.http_stream.specs.Messages.{Message}
use Rattle.http_stream.specs.Run.{MessageText, RunsMessages, said}
use Rattle.http_api.specs.Requests.{IsReadAs}
use Rattle.web.specs.Serving.{AnswersBy, AnswersFrom, GetsAt}

-- one of these messages asks this
abbrev pub OneAsks : List Message → Request → Type 0
OneAsks [] asked = ⊥
OneAsks (m ∷ messages) asked = IsReadAs (said m) (Ok asked) ⊎ OneAsks messages asked

-- what one of them asks, carried out, makes of the office the other
abbrev pub OneMakes : List Message → State → State → Type 0
OneMakes messages office left = (asked : Request) × OneAsks messages asked × CarriesOut office asked left

module _ {S : Type 0} (ghosts : Ghosts S) where
  -- Messages were answered, the first of them at a desk at rest. After a crash then the office is opened that all answered ones left, or
  -- one that one of them makes of it.
  abbrev pub AnsweredStay : Type 0
  AnsweredStay = (old new : DeskState S) (messages : List Message) (texts : List (List ℕ)) → IsAtRest ghosts old → RunsMessages (AnswersFrom ghosts) old messages texts new
      → (office : State) → IsOpenedAfter ghosts new office → (office ≡ new.office) ⊎ OneMakes messages new.office office

  -- a request gets an answer, and is refused by the storage only where the connection is shut or the disk fails
  pub record GetsAvailable (before : DeskState S) (asked : Request) (answer : Result Reply Refusal) (after : DeskState S) : Type 0 where
    pub gets : GetsAt ghosts before asked answer after
    pub available : IsAvailable ghosts before answer after

  -- Messages were answered, the first of them at a desk that is ready for them and for further requests: so it was for each, and is for
  -- the further ones.
  abbrev pub StreamLasts : Type 0
  StreamLasts = (requests : ℕ) (old new : DeskState S) (messages : List Message) (texts : List (List ℕ)) → length messages + requests ≤ 2 ^ 40
      → IsReady ghosts (length messages + requests) old → RunsMessages (AnswersFrom ghosts) old messages texts new
      → RunsMessages (AnswersBy GetsAvailable) old messages texts new × IsReady ghosts requests new
