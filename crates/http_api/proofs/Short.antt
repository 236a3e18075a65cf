-- The reason phrases of refusals are short.
use Rattle.std.proofs.Common.{◌≡◌, ◌≤◌, ℕ, ◌==◌, Bool, true, false, ◌||◌, List, [], ◌∷◌, length, refl, subst, arith}
use Rattle.http_api.proofs.Common.{eqb-true, list_any, statuses}
use Rattle.http_api.specs.Text.{reason_of}

-- each of these statuses has a short reason
AllShort : List ℕ → Type 0
AllShort [] = Unit {0}
AllShort (s ∷ ss) = (length (reason_of s) ≤ 32) × AllShort ss

-- one of them has one
one_short : (n : ℕ) (ss : List ℕ) → AllShort ss → list_any (λ s. s == n) ss ≡ true → length (reason_of n) ≤ 32
unfolding AllShort
one_short n [] short e = absurd (let f : false ≡ true = e in cc)
one_short n (s ∷ ss) short e = by (s == n) refl e (λ g. one_short n ss short.1 g)
  where
    by : (t : Bool) → (s == n) ≡ t → (t || list_any (λ s. s == n) ss) ≡ true → (list_any (λ s. s == n) ss ≡ true → length (reason_of n) ≤ 32) → length (reason_of n) ≤ 32
    by true f g on = subst (λ (k : ℕ). length (reason_of k) ≤ 32) (eqb-true s n f) short.0
    by false f g on = on g

-- so has each status of a refusal
pub short : (n : ℕ) → list_any (λ s. s == n) statuses ≡ true → length (reason_of n) ≤ 32
unfolding AllShort reason_of
short n e = one_short n statuses (omega arith, (omega arith, (omega arith, (omega arith, (omega arith, (omega arith, tt)))))) e
