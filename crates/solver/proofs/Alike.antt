-- All matchings of an instance that are best by an aim have one size and one profile: each is as large as the other, and of two rows
-- neither of which comes before the other all places are the same.
use Rattle.std.proofs.Common.{◌≡◌, ℕ, zero, suc, ◌<◌, inl, inr, ℤ, pos, List, length, sym, subst, ◌-◌, arith}
use Rattle.solver.proofs.Common.{ints, RANKS, Aim, Greedy, Generous, ranks_read, Shape, Pair, IsBest, profile}
use Rattle.spa.proofs.Orders.{RowAtMost, at_most_from}

-- rows at most one another are the same in all places
both_ways : (n : ℕ) (v w : ℕ → ℤ) → RowAtMost n v w → RowAtMost n w v → (k : ℕ) → k < n → v k ≡ w k
both_ways zero v w a b k h = absurd (omega arith)
both_ways (suc n) v w (inl x) (inl y) k h = absurd (omega (arith, ints))
both_ways (suc n) v w (inl x) (inr y) k h = let e : w 0 ≡ v 0 = y.0 in absurd (omega (arith, ints))
both_ways (suc n) v w (inr x) (inl y) k h = let e : v 0 ≡ w 0 = x.0 in absurd (omega (arith, ints))
both_ways (suc n) v w (inr x) (inr y) zero h = x.0
both_ways (suc n) v w (inr x) (inr y) (suc k) h = both_ways n (λ j. v (suc j)) (λ j. w (suc j)) x.1 y.1 k (omega arith)

-- numbers at ranks that an aim reads as the same are the same
read_equal : (aim : Aim) (v w : ℕ → ℤ) → ((k : ℕ) → k < RANKS → ranks_read aim v k ≡ ranks_read aim w k) → (k : ℕ) → k < RANKS → v k ≡ w k
read_equal Greedy v w e k h = e k h
read_equal Generous v w e k h =
    let back : RANKS - suc (RANKS - suc k) ≡ k = omega arith in
    let same = e (RANKS - suc k) (omega arith) in
    let here : v (RANKS - suc (RANKS - suc k)) ≡ w (RANKS - suc (RANKS - suc k)) = omega (arith, ints, same) in
    subst (λ (j : ℕ). v j ≡ w j) back here

-- as many pairs
pub same_size : (aim : Aim) (i : Shape) (M N : List Pair) → IsBest aim i M → IsBest aim i N → length M ≡ length N
same_size aim i M N m n = let a = m.largest N n.matching in let b = n.largest M m.matching in omega (arith, a, b)

-- as many of each rank
pub same_profile : (aim : Aim) (i : Shape) (M N : List Pair) → IsBest aim i M → IsBest aim i N → (k : ℕ) → k < RANKS → profile i M k ≡ profile i N k
same_profile aim i M N m n k h =
    let v : ℕ → ℤ = λ k. pos (profile i M k) in
    let w : ℕ → ℤ = λ k. pos (profile i N k) in
    let size = same_size aim i M N m n in
    let e : v k ≡ w k = read_equal aim v w (both_ways RANKS (ranks_read aim v) (ranks_read aim w) (at_most_from RANKS (ranks_read aim v) (ranks_read aim w) (n.first M m.matching size)) (at_most_from RANKS (ranks_read aim w) (ranks_read aim v) (m.first N n.matching (sym size)))) k h in
    omega (arith, ints, e)
