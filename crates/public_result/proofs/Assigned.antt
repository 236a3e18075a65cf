-- The pairs that are assigned, student by student.
use Rattle.std.proofs.Common.{◌≡◌, ℕ, suc, ◌+◌, ◌<◌, ◌≤◌, ◌==◌, inl, inr, true, false, List, [], ◌∷◌, length, get_or, count_by, Option, Some, None, refl, subst, arith, eqb}
use Rattle.public_result.proofs.Common.{AllByRecursion, Pair, assigned_pairs, sum_by-cons, cases_eq, eq-eqb, ne_eqb}

-- what holds of each student and the project that is assigned holds of the pairs
pub assigned_each : (P : Pair → Type 0) (n : ℕ) (ps : List (Option ℕ)) → ((j p : ℕ) → j < length ps → get_or ps j None ≡ Some p → P (record { student = n + j; project = p })) → AllByRecursion P (assigned_pairs n ps)
assigned_each P n [] f = tt
assigned_each P n (None ∷ ps) f =
    assigned_each P (suc n) ps (λ j p h e. subst (λ (m : ℕ). P (record { student = m; project = p })) (omega arith) (f (suc j) p (omega arith) e))
assigned_each P n (Some q ∷ ps) f = (
  subst (λ (m : ℕ). P (record { student = m; project = q })) (omega arith) (f 0 q (omega arith) refl),
  assigned_each P (suc n) ps (λ j p h e. subst (λ (m : ℕ). P (record { student = m; project = p })) (omega arith) (f (suc j) p (omega arith) e)),
)

-- a student before n is in none of the pairs
none_before : (s n : ℕ) (ps : List (Option ℕ)) → s < n → count_by (λ e. e.student == s) (assigned_pairs n ps) ≡ 0
none_before s n [] h = refl
none_before s n (None ∷ ps) h = none_before s (suc n) ps (omega arith)
none_before s n (Some p ∷ ps) h =
    let r = none_before s (suc n) ps (omega arith) in
    let e : eqb n s ≡ false = ne_eqb n s (λ x. absurd (omega arith)) in
    simp (sum_by-cons, e, r)

-- each student is in one pair at most
pub assigned_once : (s n : ℕ) (ps : List (Option ℕ)) → count_by (λ e. e.student == s) (assigned_pairs n ps) ≤ 1
assigned_once s n [] = omega arith
assigned_once s n (None ∷ ps) = assigned_once s (suc n) ps
assigned_once s n (Some p ∷ ps) =
    elim (cases_eq n s) [
      | inl same ↦
          let r = none_before s (suc n) ps (omega arith) in
          let e : eqb n s ≡ true = eq-eqb n s same in
          simp (sum_by-cons, e) (omega (arith, r))
      | inr other ↦
          let r = assigned_once s (suc n) ps in
          let e : eqb n s ≡ false = ne_eqb n s other in
          simp (sum_by-cons, e) (omega (arith, r))
    ]
