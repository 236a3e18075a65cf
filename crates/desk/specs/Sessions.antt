-- What becomes of the session that a desk keeps.
use Rattle.std.specs.Prelude.{◌≡◌, ℕ, List, [], ◌∷◌, IsTrue, Option, Some, None, is_some, IfSome, IsOk, Result, Ok, Err, if◌then◌else◌}
use Rattle.office_model.specs.State.{State, last_round, has_list, has_import}
use Rattle.office_model.specs.declared.refusal.Refusal.{Refusal}
use Rattle.office_model.specs.Reads.{is_read}
use Rattle.office_model.specs.Refusing.{refusal_of}
use Rattle.office_model.specs.declared.request.Plain.{Plain}
use Rattle.office_model.specs.declared.request.Plain.TheVariants.{PutStudent, PutList}
use Rattle.office_model.specs.declared.request.Reply.{Reply}
use Rattle.office_model.specs.declared.request.Request.{Request}
use Rattle.office_model.specs.declared.request.Request.TheVariants as request
use Rattle.office_model.specs.Run.{Step}
use Rattle.solver.specs.SessionState.{SessionState}
use Rattle.desk.specs.layers.Layers.{layers}
use Rattle.desk.specs.layers.SessionRounds.{IsSessionOf, IsOneMore}
use Rattle.desk.specs.Keeping.{AnswersStored, AnswersRound}
use Rattle.desk.specs.declared.sessions.SessionEffect.{SessionEffect}
use Rattle.desk.specs.declared.sessions.SessionEffect.TheVariants.{Keep, Start, Extend, End}

-- a student's first list in the open round joins a session, and one over another ends it
abbrev pub list_effect : State → List ℕ → SessionEffect
list_effect o student = if has_list o (last_round o) student then End else Extend student

-- what a plain request, once carried out, makes of a session
abbrev pub plain_effect : State → Plain → SessionEffect
plain_effect o (PutStudent code label) = Keep
plain_effect o (PutList student choices) = list_effect o student
plain_effect o p = if is_read p then Keep else End

-- the same of each request
abbrev pub effect_of : State → Request → SessionEffect
effect_of o (request.Plain p) = plain_effect o p
effect_of o request.Close = End
effect_of o request.Preview = Start
effect_of o request.RoundText = Keep
effect_of o (request.Report kind round) = Keep
effect_of o (request.Import id kind bytes) = if has_import o id then Keep else End

-- a session that is cached stays, and where none is cached one is started
abbrev pub IsStarted : Option SessionState → Option SessionState → Type 0
IsStarted None new = IsTrue (is_some new)
IsStarted (Some s) new = new ≡ Some s

-- a session that is cached has one student more, or is dropped
abbrev pub IsJoined : Option SessionState → Option SessionState → Type 0
IsJoined None new = new ≡ None
IsJoined (Some s) new = IfSome new (IsOneMore s)

-- from the session before to the one after
abbrev pub Goes : SessionEffect → Option SessionState → Option SessionState → Type 0
Goes Keep old new = new ≡ old
Goes Start old new = IsStarted old new
Goes (Extend student) old new = IsJoined old new
Goes End old new = new ≡ None

-- the same over a request that was asked: a refused one leaves the session
abbrev pub GoesOn : State → Request → Result Reply Refusal → Option SessionState → Option SessionState → Type 0
GoesOn o q (Ok reply) old new = Goes (effect_of o q) old new
GoesOn o q (Err refusal) old new = new ≡ old

-- What allocates nothing is answered: a read of a round that is there, a stored import that comes once more, and a preview that is
-- read from a session.
pub record AnswersAtOnce (o : State) (kept : Option SessionState) (q : Request) (a : Result Reply Refusal) : Type 0 where
  pub round : AnswersRound o q a
  pub repeated : AnswersStored o q a
  pub preview : q ≡ request.Preview → refusal_of o q ≡ None → IsTrue (is_some kept) → IsOk a

-- over a run: each request is a step of the office, what allocates nothing is answered, the session goes on over each
abbrev pub RunsOn : State → Option SessionState → List Request → List (Result Reply Refusal) → State → Option SessionState → Type 0
RunsOn o old [] [] n new = (n ≡ o) × (new ≡ old)
RunsOn o old (q ∷ qs) (a ∷ answers) n new = (m : State) × (kept : Option SessionState) × Step layers o q a m × GoesOn o q a old kept × AnswersAtOnce o old q a × RunsOn m kept qs answers n new
RunsOn o old [] (a ∷ answers) n new = ⊥
RunsOn o old (q ∷ qs) [] n new = ⊥

-- a session that is cached mirrors the open round of the office
abbrev pub MirrorsRound : State → Option SessionState → Type 0
MirrorsRound o kept = IfSome kept (λ s. IsSessionOf o s)
