-- The order of an aim is one that sums keep, and its unbeaten matchings are the best ones.
use Rattle.std.proofs.Common.{◌≡◌, ℕ, zero, suc, ◌-◌, ◌<◌, inl, inr, refl, sym, ◌∙◌, ap, arith, ℤ, ◌≤ℤ◌, pos, List, length}
use Rattle.std.proofs.Math.IntN.{neg_ℤ-+ℤ}
use Rattle.spa.proofs.Common.{ints, cases_lt, RANKS, COMPONENTS, Aim, Greedy, Generous, as_read, ranks_read, order, plus, read_alike, Shape, Pair, IsBest, IsUnbeaten, profile, weight_row}
use Rattle.spa.proofs.Orders.{RowAtMost, RowAtMost_refl, RowAtMost_trans, RowAtMost-plus, at_most_from, not_before}
use Rattle.spa.proofs.Duality.{IsSumOrder}
use Rattle.spa.specs.Order.{IsSettled}

-- an aim reads a sum by place
pub read_sum : (aim : Aim) (v w : ℕ → ℤ) (t : ℕ) → as_read aim (plus v w) t ≡ plus (as_read aim v) (as_read aim w) t
read_sum aim v w zero = refl
read_sum Greedy v w (suc k) = refl
read_sum Generous v w (suc k) = neg_ℤ-+ℤ (v (suc (RANKS - suc k))) (w (suc (RANKS - suc k)))

-- rows are at most by their first places alone
pub RowAtMost_same : (n : ℕ) (v w x y : ℕ → ℤ) → ((t : ℕ) → t < n → v t ≡ w t) → ((t : ℕ) → t < n → x t ≡ y t) → RowAtMost n v x → RowAtMost n w y
RowAtMost_same zero v w x y e f a = tt
RowAtMost_same (suc n) v w x y e f (inl h) = let p : v 0 ≡ w 0 = e 0 (omega arith) in let q : x 0 ≡ y 0 = f 0 (omega arith) in inl (omega (arith, ints))
RowAtMost_same (suc n) v w x y e f (inr s) =
    inr (sym (e 0 (omega arith)) ∙ s.0 ∙ f 0 (omega arith), RowAtMost_same n (λ t. v (suc t)) (λ t. w (suc t)) (λ t. x (suc t)) (λ t. y (suc t)) (λ t h. e (suc t) (omega arith)) (λ t h. f (suc t) (omega arith)) s.1)

-- The question of docs/PROOF.md. The order of an aim is kept by sums: it compares rows as they are read, reading adds up place by place,
-- and where two rows are at most two others place by place from the front, so are their sums.
pub aim_sums : (aim : Aim) → IsSumOrder (order aim)
aim_sums aim =
    let r : (ℕ → ℤ) → ℕ → ℤ = as_read aim in
    record {
      same = λ v w x y e f h. not_before COMPONENTS (r w) (r y) (RowAtMost_same COMPONENTS (r v) (r w) (r x) (r y) (read_alike aim v w e) (read_alike aim x y f) (at_most_from COMPONENTS (r v) (r x) h));
      refl = λ v. not_before COMPONENTS (r v) (r v) (RowAtMost_refl COMPONENTS (r v));
      trans = λ u v w h k. not_before COMPONENTS (r u) (r w) (RowAtMost_trans COMPONENTS (r u) (r v) (r w) (at_most_from COMPONENTS (r u) (r v) h) (at_most_from COMPONENTS (r v) (r w) k));
      plus = λ u v w x h k.
          not_before COMPONENTS (r (plus u w)) (r (plus v x))
          (RowAtMost_same COMPONENTS (plus (r u) (r w)) (r (plus u w)) (plus (r v) (r x)) (r (plus v x)) (λ t _. sym (read_sum aim u w t)) (λ t _. sym (read_sum aim v x t))
          (RowAtMost-plus COMPONENTS (r u) (r v) (r w) (r x) (at_most_from COMPONENTS (r u) (r v) h) (at_most_from COMPONENTS (r w) (r x) k)));
    }

-- the first place of a row that is at most another
first_place : (n : ℕ) (v w : ℕ → ℤ) → RowAtMost (suc n) v w → v 0 ≤ℤ w 0
first_place n v w (inl h) = omega (arith, ints)
first_place n v w (inr s) = let e : v 0 ≡ w 0 = s.0 in omega (arith, ints)

-- the other places, where the first is the same
other_places : (n : ℕ) (v w : ℕ → ℤ) → RowAtMost (suc n) v w → v 0 ≡ w 0 → RowAtMost n (λ t. v (suc t)) (λ t. w (suc t))
other_places n v w (inl h) e = absurd (omega (arith, ints))
other_places n v w (inr s) e = s.1

-- The question of docs/PROOF.md. A matching whose total weight is unbeaten is best. A weight's first place is the size and the others are
-- the profile, as the aim reads it: where no row comes after, no size is larger, and of those as large no profile comes after.
pub best_from_unbeaten : (aim : Aim) (i : Shape) (M : List Pair) → IsUnbeaten (order aim) i M → IsBest aim i M
best_from_unbeaten aim i M b =
    let r : List Pair → ℕ → ℤ = λ N. as_read aim (weight_row i N) in
    let p : List Pair → ℕ → ℤ = λ N. ranks_read aim (λ k. pos (profile i N k)) in
    record {
      matching = b.matching;
      largest = λ N n. let s = first_place RANKS (r N) (r M) (at_most_from COMPONENTS (r N) (r M) (b.unbeaten N n)) in omega (arith, ints, s);
      first = λ N n same. not_before RANKS (p N) (p M) (other_places RANKS (r N) (r M) (at_most_from COMPONENTS (r N) (r M) (b.unbeaten N n)) (ap pos same));
    }

-- The question of docs/PROOF.md. And only such a matching is: a total weight that comes after has a larger first place, so a larger size,
-- or the same and then a profile that comes after.
pub unbeaten_from_best : (aim : Aim) (i : Shape) (M : List Pair) → IsBest aim i M → IsUnbeaten (order aim) i M
unbeaten_from_best aim i M g =
    let r : List Pair → ℕ → ℤ = λ N. as_read aim (weight_row i N) in
    let p : List Pair → ℕ → ℤ = λ N. ranks_read aim (λ k. pos (profile i N k)) in
    record {
      matching = g.matching;
      unbeaten = λ N n.
          not_before COMPONENTS (r N) (r M) (elim (cases_lt (length N) (length M)) [
            | inl h ↦ inl (omega (arith, ints))
            | inr h ↦
                let most = g.largest N n in
                let same : length N ≡ length M = omega arith in
                inr (ap pos same, at_most_from RANKS (p N) (p M) (g.first N n same))
          ]);
    }

-- so the order of an aim is settled by the places of a worth
pub settled : (aim : Aim) → IsSettled (order aim)
settled aim = record { same = (aim_sums aim).same; goes_on = (aim_sums aim).trans }
