-- What a request that was carried out makes of the session.
use Rattle.std.proofs.Common.{◌≡◌, ℕ, List, Bool, true, false, Option, Some, None, Result, Ok, Err, IfSome, refl, sym, subst}
use Rattle.desk.proofs.Common.{Refusal, Step, effect_after, if◌then◌else◌, State, last_round, has_list, IsFit, Plain, PutSupervisor, PutProject, PutStudent, OpenRound, PutList, DropList, ReopenRound, Reply, Request, is_read, changes_nothing, plain_refusal, refusal_of, after_plain, Makes, SessionState, layers, MayJoin, plain_effect, effect_of, MirrorsRound, MayMeet}
use Rattle.office_model.specs.declared.request.Request.TheVariants as request
use Rattle.desk.specs.declared.sessions.SessionEffect.TheVariants.{Keep, Extend, End}

-- ---- a change

-- a student who is put is in no list, so the session mirrors it as before
put_stays : (o : State) (code label : List ℕ) (kept : Option SessionState) → MirrorsRound o kept → MirrorsRound (after_plain (PutStudent code label) o) kept
put_stays o code label None mirrors = mirrors
put_stays o code label (Some s) mirrors = record { is_open = mirrors.is_open; aim = mirrors.aim; named = mirrors.named; fit = mirrors.fit; here = mirrors.here; same = mirrors.same }

-- who puts a first list may join
put_joins : (o n : State) (student : List ℕ) (choices : List (List ℕ)) (kept : Option SessionState) → IsFit o → plain_refusal o (PutList student choices) ≡ None → has_list o (last_round o) student ≡ false → n ≡ after_plain (PutList student choices) o
    → MirrorsRound o kept → IfSome kept (λ s. MayJoin n s student)
put_joins o n student choices None fit allowed none after mirrors = mirrors
put_joins o n student choices (Some s) fit allowed none after mirrors =
    record { before = o; sat = mirrors; put = record { fit = fit; none_yet = none; choices = choices; allowed = allowed; after = after } }

list_meets : (o n : State) (student : List ℕ) (choices : List (List ℕ)) (kept : Option SessionState) → IsFit o → plain_refusal o (PutList student choices) ≡ None → n ≡ after_plain (PutList student choices) o → MirrorsRound o kept
    → (has : Bool) → has_list o (last_round o) student ≡ has → MayMeet (if has then End else Extend student) n kept
list_meets o n student choices kept fit allowed after mirrors true is = tt
list_meets o n student choices kept fit allowed after mirrors false is = put_joins o n student choices kept fit allowed is after mirrors

plain_meets : (o n : State) (p : Plain) (kept : Option SessionState) → IsFit o → plain_refusal o p ≡ None → is_read p ≡ false → n ≡ after_plain p o → MirrorsRound o kept → MayMeet (plain_effect o p) n kept
plain_meets o n (PutSupervisor code label quota) kept fit allowed change after mirrors = tt
plain_meets o n (PutProject code label supervisor quota) kept fit allowed change after mirrors = tt
plain_meets o n (PutStudent code label) kept fit allowed change after mirrors = subst (λ (x : State). MirrorsRound x kept) (sym after) (put_stays o code label kept mirrors)
plain_meets o n (OpenRound aim) kept fit allowed change after mirrors = tt
plain_meets o n (PutList student choices) kept fit allowed change after mirrors = list_meets o n student choices kept fit allowed after mirrors (has_list o (last_round o) student) refl
plain_meets o n (DropList student) kept fit allowed change after mirrors = tt
plain_meets o n ReopenRound kept fit allowed change after mirrors = tt
plain_meets o n _ kept fit allowed change after mirrors = absurd (cc)

-- a session that mirrors an office may have the effect in the office that a change makes
pub meets : (o n : State) (q : Request) (reply : Reply) (kept : Option SessionState) → IsFit o → refusal_of o q ≡ None → changes_nothing o q ≡ false → Makes layers o q reply n → MirrorsRound o kept → MayMeet (effect_of o q) n kept
meets o n (request.Plain p) reply kept fit allowed change made mirrors = plain_meets o n p kept fit allowed change made.1 mirrors
meets o n request.Close reply kept fit allowed change made mirrors = tt
meets o n request.Preview reply kept fit allowed change made mirrors = absurd (cc)
meets o n request.RoundText reply kept fit allowed change made mirrors = absurd (cc)
meets o n (request.Report kind round) reply kept fit allowed change made mirrors = absurd (cc)
meets o n (request.Import id kind bytes) reply kept fit allowed change made mirrors = subst (λ (b : Bool). MayMeet (if b then Keep else End) n kept) (sym change) tt

-- so it may after the change was asked, whatever the answer
pub meets_after : (o n : State) (q : Request) (a : Result Reply Refusal) (kept : Option SessionState) → IsFit o → refusal_of o q ≡ None → changes_nothing o q ≡ false → Step layers o q a n → MirrorsRound o kept
    → MayMeet (effect_after a (effect_of o q)) n kept
meets_after o n q (Ok reply) kept fit allowed change step mirrors = meets o n q reply kept fit allowed change step.1 mirrors
meets_after o n q (Err refusal) kept fit allowed change step mirrors = subst (λ (x : State). MirrorsRound x kept) (sym step.0) mirrors
