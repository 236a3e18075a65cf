-- The end of a stream at the end of its reader.
use Rattle.std.proofs.Common.{◌≡◌, ℕ, List, Option, None, IfNone, sym, subst}
use Rattle.http_stream.proofs.Common.{Open, Judges}

-- what is said where nothing was found
pub at_none : {A : Type 0} (P : Type 0) (found : Option A) → found ≡ None → IfNone found P → P
at_none {A} P found e h = subst (λ (o : Option A). IfNone o P) e h

-- where nothing came, the front stays as it was
pub still_open : (old buffer : List ℕ) → buffer ≡ old → Judges old Open → Judges buffer Open
still_open old buffer same judged = subst (λ (t : List ℕ). Judges t Open) (sym same) judged
