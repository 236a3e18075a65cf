-- What the office answers to a message.
use Rattle.std.specs.Prelude.{◌≡◌, ℕ, List, Option, None, Result, Ok, Err}
use Rattle.sqlite.specs.Held.{state}
use Rattle.sqlite.specs.State.{HasCleanDisk}
use Rattle.sqlite_trees.specs.declared.store.Store.{Ghosts}
use Rattle.office_model.specs.declared.refusal.Refusal.{Refusal}
use Rattle.office_model.specs.declared.refusal.Refusal.TheVariants as no
use Rattle.office_model.specs.declared.request.Reply.{Reply}
use Rattle.office_model.specs.State.{State}
use Rattle.office_model.specs.declared.request.Request.{Request}
use Rattle.office_model.specs.Run.{Step}
use Rattle.solver.specs.SessionState.{SessionState}
use Rattle.desk.specs.layers.Layers.{layers}
use Rattle.desk.specs.DeskState.{DeskState}
use Rattle.desk.specs.Laws.{IsAsked}
use Rattle.desk.specs.Sessions.{AnswersAtOnce, GoesOn}
use Rattle.http_stream.specs.declared.outcome.End.{End}
use Rattle.http_stream.specs.declared.outcome.End.TheVariants.{Closed, Unfinished, BadHead, TooLarge, Hundred}
use Rattle.http_stream.specs.Run.{MessageText}
use Rattle.http_api.specs.Requests.{IsReadAs}
use Rattle.http_api.specs.Texts.{refusal_text, text_of}

-- what is at a desk: an office, and the session that is cached, if any
pub record AtDesk : Type 0 where
  pub office : State
  pub session : Option SessionState

-- the same of a desk with its tables
abbrev pub at_desk : {S : Type 0} → DeskState S → AtDesk
at_desk desk = record { office = desk.office; session = desk.session }

-- an office that was just opened: no session is cached
abbrev pub just_opened : State → AtDesk
just_opened office = record { office = office; session = None }

-- A step of the office at a desk. What allocates nothing is answered, and the session goes on over the request.
pub record Gets (before : AtDesk) (asked : Request) (answer : Result Reply Refusal) (after : AtDesk) : Type 0 where
  pub step : Step layers before.office asked answer after.office
  pub at_once : AnswersAtOnce before.office before.session asked answer
  pub goes : GoesOn before.office asked answer before.session after.session

module _ {D : Type 0} (Answered : D → Request → Result Reply Refusal → D → Type 0) where
  -- A request is answered by the text of its answer. What is no request changes nothing, and its refusal is the answer.
  abbrev pub AnswersRead : D → Result Request Refusal → List ℕ → D → Type 0
  AnswersRead before (Ok asked) bytes after = (answer : Result Reply Refusal) × Answered before asked answer after × (bytes ≡ text_of answer)
  AnswersRead before (Err refusal) bytes after = (bytes ≡ refusal_text refusal) × (after ≡ before)

  -- A message is answered as what is read of it. So out of memory takes the place of its answer where reading it allocates, and
  -- else only where it may be the answer of the request; never after a change.
  abbrev pub AnswersBy : D → MessageText → List ℕ → D → Type 0
  AnswersBy before said bytes after = (read : Result Request Refusal) × IsReadAs said read × AnswersRead before read bytes after

-- a message is answered so by the office
abbrev pub AnswersOffice : State → MessageText → List ℕ → State → Type 0
AnswersOffice = AnswersBy (Step layers)

-- and at a desk
abbrev pub AnswersMessage : AtDesk → MessageText → List ℕ → AtDesk → Type 0
AnswersMessage = AnswersBy Gets

module _ {S : Type 0} (ghosts : Ghosts S) where
  -- The same where its tables are kept: what a crash leaves, that an answered change has its tables alone, and why the storage has failed.
  pub record GetsAt (before : DeskState S) (asked : Request) (answer : Result Reply Refusal) (after : DeskState S) : Type 0 where
    pub gets : Gets (at_desk before) asked answer (at_desk after)
    pub asking : IsAsked ghosts before asked answer after

  -- a message is answered so, and a disk that is clean after it was clean before it
  pub record AnswersFrom (before : DeskState S) (said : MessageText) (bytes : List ℕ) (after : DeskState S) : Type 0 where
    pub read : Result Request Refusal
    pub is_read : IsReadAs said read
    pub answers : AnswersRead GetsAt before read bytes after
    pub clean : HasCleanDisk (state ghosts after.store) → HasCleanDisk (state ghosts before.store)

-- the refusal of an end that is answered: one that is not above a limit is a bad head
abbrev pub refusal_at : End → Refusal
refusal_at Closed = no.BadHead
refusal_at Unfinished = no.BadHead
refusal_at BadHead = no.BadHead
refusal_at TooLarge = no.TooLarge
refusal_at Hundred = no.BadHead

-- its text
abbrev pub end_text : End → List ℕ
end_text end = refusal_text (refusal_at end)
