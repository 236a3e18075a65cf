-- A count over the pairs that are assigned, student by student.
use Rattle.std.proofs.Common.{◌≡◌, ℕ, suc, ◌+◌, ◌<◌, ◌≤◌, Bool, cond, List, length, get_or, drop, count_by, Option, Some, None, refl, arith, drop-cons, add-one, drop_of_length-le}
use Rattle.public_result.proofs.Common.{Pair, assigned_pairs, sum_by-cons}

-- how many pairs pass, from the student s on
abbrev pub rest : (Pair → Bool) → ℕ → List (Option ℕ) → ℕ
rest test s ps = count_by test (assigned_pairs s (drop s ps))

-- nobody is left past the last student
pub rest_end : (test : Pair → Bool) (s : ℕ) (ps : List (Option ℕ)) → length ps ≤ s → rest test s ps ≡ 0
rest_end test s ps h = rw (drop_of_length-le ps h) refl

-- one student more in a count so far: without a project
pub count_none : (test : Pair → Bool) (s placed total : ℕ) (ps : List (Option ℕ)) → s < length ps → placed + rest test s ps ≡ total → get_or ps s None ≡ None → placed + rest test (s + 1) ps ≡ total
count_none test s placed total ps h so e = let r = one s h e in omega (arith, r, so)
  where
    one : (s : ℕ) → s < length ps → get_or ps s None ≡ None → rest test s ps ≡ rest test (s + 1) ps
    one s h e = rw (drop-cons ps s None, e) (simp add-one)

-- a pair, which counts where it passes
pub count_some : (test : Pair → Bool) (s p placed more total : ℕ) (ps : List (Option ℕ)) → s < length ps → placed + rest test s ps ≡ total → get_or ps s None ≡ Some p
    → more ≡ placed + cond (test record { student = s; project = p }) 1 0 → more + rest test (s + 1) ps ≡ total
count_some test s p placed more total ps h so e is = let r = one s h e in omega (arith, r, so, is)
  where
    one : (s : ℕ) → s < length ps → get_or ps s None ≡ Some p → rest test s ps ≡ cond (test record { student = s; project = p }) 1 0 + rest test (s + 1) ps
    one s h e =
        rw (drop-cons ps s None, e) (simp add-one (sum_by-cons (λ (x : Pair). cond (test x) 1 0) (record { student = s; project = p }) (assigned_pairs (suc s) (drop (suc s) ps))))
