-- Rows that are not below zero and add up to nothing are nothing.
use Rattle.std.proofs.Common.{◌≡◌, ℕ, zero, suc, ◌<◌, ◌⊎◌, inl, inr, refl, sym, ◌∙◌, ap, arith, ℤ, pos, ◌+ℤ◌}
use Rattle.public_result.proofs.Common.{IsNothing, IsSumOrder, NoLater, RowAtMost, after, at_most_from, times, times-suc, times-zero, read_alike, read_twice, as_read, none, order, plus, sum_below, COMPONENTS, Aim, aim_sums, ints, cases_lt}

-- of rows that are at most each other each place is the same
both_ways : (n : ℕ) (v w : ℕ → ℤ) → RowAtMost n v w → RowAtMost n w v → (k : ℕ) → k < n → v k ≡ w k
both_ways zero v w a b k h = absurd (omega arith)
both_ways (suc n) v w (inl a) (inl b) k h = absurd (omega (arith, ints))
both_ways (suc n) v w (inl a) (inr b) k h = let e : w 0 ≡ v 0 = b.0 in absurd (omega (arith, ints))
both_ways (suc n) v w (inr a) (inl b) k h = let e : v 0 ≡ w 0 = a.0 in absurd (omega (arith, ints))
both_ways (suc n) v w (inr a) (inr b) zero h = a.0
both_ways (suc n) v w (inr a) (inr b) (suc k) h = both_ways n (after v) (after w) a.1 b.1 k (omega arith)

module _ (aim : Aim) where
  -- the order of an aim is kept by sums
  abbrev o : IsSumOrder (order aim)
  o = aim_sums aim

  -- rows of which neither comes before the other have the same places
  pub alike : (v w : ℕ → ℤ) → NoLater (order aim) v w → NoLater (order aim) w v → (k : ℕ) → k < COMPONENTS → v k ≡ w k
  alike v w a b k h =
      let r : (ℕ → ℤ) → ℕ → ℤ = as_read aim in
      let same : (t : ℕ) → t < COMPONENTS → r v t ≡ r w t = both_ways COMPONENTS (r v) (r w) (at_most_from COMPONENTS (r v) (r w) a) (at_most_from COMPONENTS (r w) (r v) b) in
      sym (read_twice aim v k h) ∙ read_alike aim (r v) (r w) same k h ∙ read_twice aim w k h

  -- a row that comes neither before zero nor after it is nothing
  neither : (v : ℕ → ℤ) → NoLater (order aim) v none → NoLater (order aim) none v → IsNothing v
  neither v a b = alike v none a b

  -- the first of two rows that add up to nothing
  pub first_nothing : (v w : ℕ → ℤ) → NoLater (order aim) none v → NoLater (order aim) none w → IsNothing (plus v w) → IsNothing v
  first_nothing v w a b e =
      neither v (o.same (plus v none) v (plus v w) none (λ t _. omega (arith, ints)) (λ t h. e t h) (o.plus v v none w (o.refl v) b)) a

  -- and the second
  pub second_nothing : (v w : ℕ → ℤ) → NoLater (order aim) none v → NoLater (order aim) none w → IsNothing (plus v w) → IsNothing w
  second_nothing v w a b e = first_nothing w v b a (λ k h. let s : v k +ℤ w k ≡ pos 0 = e k h in omega (arith, ints, s))

  -- a sum of two is not below zero
  pub plus_above : (v w : ℕ → ℤ) → NoLater (order aim) none v → NoLater (order aim) none w → NoLater (order aim) none (plus v w)
  plus_above v w a b = o.same (plus none none) none (plus v w) (plus v w) (λ t _. refl) (λ t _. refl) (o.plus none v none w a b)

  -- nor a sum of many
  pub sum_above : (m : ℕ) (f : ℕ → ℕ → ℤ) → ((s : ℕ) → s < m → NoLater (order aim) none (f s)) → NoLater (order aim) none (λ t. sum_below m (λ s. f s t))
  sum_above zero f a = o.refl none
  sum_above (suc m) f a = plus_above (λ t. sum_below m (λ s. f s t)) (f m) (sum_above m f (λ s h. a s (omega arith))) (a m (omega arith))

  -- each of many rows that add up to nothing
  pub each_nothing : (m : ℕ) (f : ℕ → ℕ → ℤ) → ((s : ℕ) → s < m → NoLater (order aim) none (f s)) → IsNothing (λ t. sum_below m (λ s. f s t)) → (s : ℕ) → s < m → IsNothing (f s)
  each_nothing zero f a e s h = absurd (omega arith)
  each_nothing (suc m) f a e s h =
      let rest : ℕ → ℤ = λ t. sum_below m (λ s. f s t) in
      let above = sum_above m f (λ s h. a s (omega arith)) in
      let last = a m (omega arith) in
      elim (split s m h) [
        | inl less ↦ each_nothing m f (λ s h. a s (omega arith)) (first_nothing rest (f m) above last e) s less
        | inr same ↦ λ k l. ap (λ (x : ℕ). f x k) same ∙ second_nothing rest (f m) above last e k l
      ]
    where
      split : (s m : ℕ) → s < suc m → (s < m) ⊎ (s ≡ m)
      split s m h = elim (cases_lt s m) [ inl l ↦ inl l | inr g ↦ inr (omega arith) ]

  -- a multiple of what is not below zero is not below zero
  pub times_above : (n : ℕ) (v : ℕ → ℤ) → NoLater (order aim) none v → NoLater (order aim) none (times n v)
  times_above zero v a = o.same none none none (times 0 v) (λ t h. refl) (λ t h. sym (times-zero (v t))) (o.refl none)
  times_above (suc n) v a = o.same none none (plus v (times n v)) (times (suc n) v) (λ t h. refl) (λ t h. sym (times-suc n (v t))) (plus_above v (times n v) a (times_above n v a))

  -- where a multiple is nothing, so is the row
  pub times_nothing : (n : ℕ) (v : ℕ → ℤ) → 0 < n → NoLater (order aim) none v → IsNothing (times n v) → IsNothing v
  times_nothing zero v h a e = absurd (omega arith)
  times_nothing (suc n) v h a e = first_nothing v (times n v) a (times_above n v a) (λ t l. sym (times-suc n (v t)) ∙ e t l)
