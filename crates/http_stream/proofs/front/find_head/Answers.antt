use Rattle.std.proofs.Common.{◌≡◌, ◌≤◌, ℕ, List, length, ap, subst, Ok, Err}
use Rattle.httparse.specs.declared.Error.{Error}
use Rattle.httparse.specs.declared.Status.{Status}
use Rattle.httparse.specs.declared.Status.TheVariants.{Partial}
use Rattle.http_stream.proofs.Common.{RequestSpans, HasNoRequest, MayBecomeRequest, RequestExceeds, MAX_HEAD_BYTES, IsMalformed}
use Rattle.httparse.specs.Outcome.{OnPartial}
use Rattle.http_stream.proofs.Windows.{may_be_well_formed, has_room}
use Rattle.http_stream.proofs.front.find_head.Goals as goal

-- what is said of a partial head
at_partial : (s : Status RequestSpans) (P : Type 0) → s ≡ Partial → OnPartial {A = RequestSpans} {E = Error} (Ok s) P → P
at_partial s P e h = subst (λ (t : Status RequestSpans). OnPartial {A = RequestSpans} {E = Error} (Ok t) P) e h

-- a partial head is none yet, and none is ruled out
missing : (w : List ℕ) (s : Status RequestSpans) → s ≡ Partial
    → OnPartial {A = RequestSpans} {E = Error} (Ok s) (HasNoRequest w)
    → OnPartial {A = RequestSpans} {E = Error} (Ok s) (MayBecomeRequest w)
    → HasNoRequest w × (IsMalformed w → ⊥)
missing w s e none may = (at_partial s (HasNoRequest w) e none, may_be_well_formed w (at_partial s (MayBecomeRequest w) e may))

pub returns-in-Partial : goal.returns-in-Partial
returns-in-Partial c =
    missing c.args.window.now c.in-Ok.status c.in-Partial.is c.in-Ok.ensures.partial c.in-Ok.ensures.unfinished

-- the parser has room for all fields of a window
full : (w : List ℕ) (room : ℕ) → room ≡ 2800 → length w ≤ MAX_HEAD_BYTES → RequestExceeds room w → ⊥
full w room e short x = has_room w short (subst (λ (n : ℕ). RequestExceeds n w) e x)

pub returns-in-TooManyHeaders : goal.returns-in-TooManyHeaders
returns-in-TooManyHeaders c =
    absurd (full c.args.window.now (length c.args.headers.now) c.requires.room c.requires.short
    (c.in-Err.ensures.too_many (ap Err c.in-TooManyHeaders.is)))
