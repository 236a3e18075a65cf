-- The rows that the code makes of the weight of a pair, as each aim reads it.
use Rattle.std.proofs.Common.{◌≡◌, ℕ, zero, suc, ◌+◌, ◌-◌, ◌<◌, ◌≤◌, ◌∷◌, length, set, replicate, cond, eqb, inl, inr, refl, ap, sym, arith, ◌∙◌, pos, get_or-set_other, get_or-set_same}
use Rattle.solver.proofs.Common.{neg_ℤ, length-replicate, get_or-replicate, eq-eqb, ne_eqb, cases_eq, Greedy, Generous, RANKS, COMPONENTS, weight, as_read, at}
use Rattle.verdict.proofs.PriceReads.{weights_of}

-- a one for the size, and one at the rank
pub greedy_row : (r t : ℕ) → 1 ≤ r → r ≤ RANKS → at (set (pos 1 ∷ replicate RANKS (pos 0)) r (pos 1)) t ≡ as_read Greedy (λ t. pos (weight r t)) t
greedy_row r zero h l = weights_of RANKS r zero h l
greedy_row r (suc k) h l = weights_of RANKS r (suc k) h l

-- one less at the rank, counted from the back: at k, among the ranks
less_at : (r k : ℕ) → 1 ≤ r → r ≤ RANKS → k < RANKS → at (set (replicate RANKS (pos 0)) (RANKS - r) (neg_ℤ (pos 1))) k ≡ neg_ℤ (pos (cond (eqb r (RANKS - suc k + 1)) 1 0))
less_at r k h l low =
    elim (cases_eq r (RANKS - suc k + 1)) [
      | inl same ↦
          let here : RANKS - r ≡ k = omega (arith, same) in
          let within : RANKS - r < length (replicate RANKS (pos 0)) = omega (arith, length-replicate RANKS (pos 0)) in
          rw (eq-eqb r (RANKS - suc k + 1) same) (ap (at (set (replicate RANKS (pos 0)) (RANKS - r) (neg_ℤ (pos 1)))) (sym here) ∙ get_or-set_same (replicate RANKS (pos 0)) (RANKS - r) (neg_ℤ (pos 1)) (pos 0) within)
      | inr other ↦
          rw (ne_eqb r (RANKS - suc k + 1) other) (get_or-set_other (replicate RANKS (pos 0)) (RANKS - r) k (neg_ℤ (pos 1)) (pos 0) (λ x. other (omega (arith, x))) ∙ get_or-replicate RANKS k (pos 0) (pos 0) low)
    ]

-- and a one for the size before it
pub generous_row : (r t : ℕ) → 1 ≤ r → r ≤ RANKS → t < COMPONENTS → at (set (pos 1 ∷ replicate RANKS (pos 0)) (COMPONENTS - r) (neg_ℤ (pos 1))) t ≡ as_read Generous (λ t. pos (weight r t)) t
generous_row r zero h l low = let e : COMPONENTS - r ≡ suc (RANKS - r) = omega arith in rw e refl
generous_row r (suc k) h l low = let e : COMPONENTS - r ≡ suc (RANKS - r) = omega arith in rw e (less_at r k h l (omega arith))
