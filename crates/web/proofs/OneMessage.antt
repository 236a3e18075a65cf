-- What comes of a message.
use Rattle.std.proofs.Common.{◌≡◌, ◌⊎◌, inl, inr, ℕ, List, Option, None, IfSome, Result, Ok, Err, refl, sym, subst, ap}
use Rattle.std.specs.Option.{unwrap_or}
use Rattle.sqlite_trees.specs.declared.store.Store.{Ghosts}
use Rattle.office_model.specs.declared.refusal.Refusal.{Refusal}
use Rattle.office_model.specs.declared.refusal.Refusal.TheVariants.{Memory}
use Rattle.office_model.specs.declared.request.Plain.{Plain}
use Rattle.office_model.specs.declared.request.Plain.TheVariants.{GetSupervisor, GetProject, GetStudent, GetRound}
use Rattle.office_model.specs.declared.request.Reply.{Reply}
use Rattle.office_model.specs.declared.request.Reply.TheVariants as reply
use Rattle.office_model.specs.declared.request.Request.{Request}
use Rattle.office_model.specs.declared.request.Request.TheVariants as request
use Rattle.office_model.specs.Refusing.{refusal_of}
use Rattle.office_model.specs.Run.{Makes, Step, refusal}
use Rattle.desk.specs.layers.Layers.{layers}
use Rattle.desk.specs.Keeping.{repeated_rows}
use Rattle.desk.specs.DeskState.{DeskState, IsInOrder}
use Rattle.desk.specs.Sessions.{AnswersAtOnce, GoesOn}
use Rattle.desk.specs.Saved.{IsSaved}
use Rattle.sqlite.specs.Held.{state}
use Rattle.sqlite.specs.State.{State as Seen}
use Rattle.office_model.specs.State.{State}
use Rattle.http_stream.specs.Run.{MessageText}
use Rattle.http_api.specs.Texts.{IsRead, refusal_text, text_of}
use Rattle.web.specs.Serving.{AnswersFrom, AnswersMessage, AnswersOffice, AnswersRead, AtDesk, Gets, GetsAt, at_desk}

-- an answer that is the one of a change has no text of the office in it
no_read : (a b : Reply) → a ≡ b → IsRead (Ok a) → IsRead (Ok b)
no_read a b is read = subst (λ (r : Reply). IsRead (Ok r)) is read

-- nothing is owed of what there is none of
owes_none : {A : Type 0} (found : Option A) (P : A → Type 0) → found ≡ None → IfSome found P
owes_none {A} found P none = subst (λ (o : Option A). IfSome o P) (sym none) tt

-- A request not refused, no read of a round, repeated import or preview, may run out of memory: it leaves the office and the session.
runs_out : (o n : AtDesk) (q : Request) → refusal_of o.office q ≡ None → ((number : ℕ) → q ≡ request.Plain (GetRound number) → ⊥) → repeated_rows o.office q ≡ None
    → (q ≡ request.Preview → ⊥) → n.office ≡ o.office → n.session ≡ o.session → Gets o q (Err Memory) n
runs_out o n q allowed no_round new no_preview stays kept = record {
  step = (stays, inr (allowed, inr (inl refl)));
  at_once = record {
    round = λ number is _. absurd (no_round number is);
    repeated = λ _. owes_none (repeated_rows o.office q) (λ rows. Err Memory ≡ Ok (reply.Rows rows)) new;
    preview = λ is _ _. absurd (no_preview is);
  };
  goes = kept;
}

-- where memory runs out for the text of an answer, it is as if it had for the request: it is a read
plain_runs_out : (o n : AtDesk) (p : Plain) (a : Reply) → IsRead (Ok a) → refusal layers o.office (request.Plain p) ≡ None → Makes layers o.office (request.Plain p) a n.office
    → GoesOn o.office (request.Plain p) (Ok a) o.session n.session → Gets o (request.Plain p) (Err Memory) n
plain_runs_out o n (GetSupervisor code) a read allowed made goes = runs_out o n _ allowed (λ number is. cc) refl (λ is. cc) made.1 goes
plain_runs_out o n (GetProject code) a read allowed made goes = runs_out o n _ allowed (λ number is. cc) refl (λ is. cc) made.1 goes
plain_runs_out o n (GetStudent code) a read allowed made goes = runs_out o n _ allowed (λ number is. cc) refl (λ is. cc) made.1 goes
plain_runs_out o n _ a read allowed made goes = absurd (no_read a _ (ap (λ (r : Option Reply). unwrap_or r a) made.0) read)

text_runs_out : (o n : AtDesk) (q : Request) (a : Reply) → IsRead (Ok a) → refusal layers o.office q ≡ None → Makes layers o.office q a n.office → GoesOn o.office q (Ok a) o.session n.session
    → Gets o q (Err Memory) n
text_runs_out o n (request.Plain p) a read allowed made goes = plain_runs_out o n p a read allowed made goes
text_runs_out o n request.Close a read allowed made goes = absurd (no_read a _ made.3 read)
text_runs_out o n request.Preview a read allowed made goes = absurd (no_read a _ made.3 read)
text_runs_out o n request.RoundText a read allowed made goes = runs_out o n _ allowed (λ number is. cc) refl (λ is. cc) made.1 goes
text_runs_out o n (request.Report kind round) a read allowed made goes = runs_out o n _ allowed (λ number is. cc) refl (λ is. cc) made.1 goes
text_runs_out o n (request.Import id kind bytes) a read allowed made goes = absurd (no_read a _ made.0 read)

-- what is read of a message is answered as what is seen of it
module _ {D S : Type 0} (see : D → S) (At : D → Request → Result Reply Refusal → D → Type 0) (Seen : S → Request → Result Reply Refusal → S → Type 0) (o n : D)
    (seen : (q : Request) (a : Result Reply Refusal) → At o q a n → Seen (see o) q a (see n)) where
  read_seen : (read : Result Request Refusal) (bytes : List ℕ) → AnswersRead At o read bytes n → AnswersRead Seen (see o) read bytes (see n)
  read_seen (Ok q) bytes at = (at.0, seen q at.0 at.1, at.2)
  read_seen (Err r) bytes at = (at.0, ap see at.1)

-- where memory runs out for the text of an answer, what was saved is as it is
without_text : (office : State) (q : Request) (reply : Reply) (old new : Seen) → IsSaved office q (Ok reply) old new → IsSaved office q (Err Memory) old new
without_text office q reply old new is = record {
  crash = is.crash;
  alone = λ changes clean. tt;
  stays_open = λ changes clean. tt;
  stays_shut = is.stays_shut;
  acted_on = λ changes acted. refl;
  cause = λ quiet clean storage. cc;
  available = λ unlimited ready clean storage. cc;
  ours = is.ours;
}

module _ {S : Type 0} (ghosts : Ghosts S) where
  -- what a desk promises of a request is what the request gets
  pub gets_at : (o n : DeskState S) (q : Request) (a : Result Reply Refusal) → Step layers o.office q a n.office → AnswersAtOnce o.office o.session q a → GoesOn o.office q a o.session n.session
      → IsSaved o.office q a (state ghosts o.store) (state ghosts n.store) → IsInOrder ghosts n → GetsAt ghosts o q a n
  gets_at o n q a step at_once goes saved after = record {
    gets = record { step = step; at_once = at_once; goes = goes };
    asking = record { step = step; saved = saved; stands = after.stands; live = after.live; fit = after.fit };
  }

  -- a request that gets an answer is answered by its text, or as one that runs out of memory
  pub answered_from : (o n : DeskState S) (bytes : List ℕ) (q : Request) (a : Result Reply Refusal) → GetsAt ghosts o q a n
      → (bytes ≡ text_of a) ⊎ (IsRead a × (bytes ≡ refusal_text Memory)) → AnswersRead (GetsAt ghosts) o (Ok q) bytes n
  answered_from o n bytes q a at (inl earlier) = (a, at, earlier)
  answered_from o n bytes q (Ok reply) at (inr earlier) =
      let gets = text_runs_out (at_desk o) (at_desk n) q reply earlier.0 at.gets.step.0 at.gets.step.1 at.gets.goes in
      let saved = without_text o.office q reply (state ghosts o.store) (state ghosts n.store) at.asking.saved in
      (Err Memory, gets_at o n q (Err Memory) gets.step gets.at_once gets.goes saved (record { stands = at.asking.stands; fit = at.asking.fit; live = at.asking.live }), earlier.1)
  answered_from o n bytes q (Err refused) at (inr earlier) = absurd earlier.0

  -- a desk with its tables answers as what is seen of it, and as its office
  pub message_seen : (o : DeskState S) (words : MessageText) (bytes : List ℕ) (n : DeskState S) → AnswersFrom ghosts o words bytes n → AnswersMessage (at_desk o) words bytes (at_desk n)
  message_seen o words bytes n from = (from.read, from.is_read, read_seen at_desk (GetsAt ghosts) Gets o n (λ q a at. at.gets) from.read bytes from.answers)

  pub office_seen : (o : DeskState S) (words : MessageText) (bytes : List ℕ) (n : DeskState S) → AnswersFrom ghosts o words bytes n → AnswersOffice o.office words bytes n.office
  office_seen o words bytes n from = (from.read, from.is_read, read_seen (λ desk. desk.office) (GetsAt ghosts) (Step layers) o n (λ q a at. at.gets.step) from.read bytes from.answers)
