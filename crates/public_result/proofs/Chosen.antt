-- What the first students are assigned.
use Rattle.std.proofs.Common.{◌≡◌, ℕ, zero, suc, ◌+◌, ◌<◌, List, [], ◌∷◌, ◌++◌, length, get_or, take, Option, Some, None, refl, ap, ◌∙◌, sym, arith, add-one}
use Rattle.public_result.proofs.Common.{chosen, choice_at, assigned_at}

-- one student more
chosen_suc : (s : ℕ) (xss : List (List ℕ)) (ks : List (Option ℕ)) → s < length xss → s < length ks → chosen (take (suc s) xss) (take (suc s) ks) ≡ chosen (take s xss) (take s ks) ++ (assigned_at (get_or xss s []) (get_or ks s None) ∷ [])
chosen_suc s [] ks h l = absurd (omega arith)
chosen_suc s (xs ∷ xss) [] h l = absurd (omega arith)
chosen_suc zero (xs ∷ xss) (None ∷ ks) h l = refl
chosen_suc zero (xs ∷ xss) (Some k ∷ ks) h l = refl
chosen_suc (suc s) (xs ∷ xss) (None ∷ ks) h l = ap (λ (r : List (Option ℕ)). None ∷ r) (chosen_suc s xss ks (omega arith) (omega arith))
chosen_suc (suc s) (xs ∷ xss) (Some k ∷ ks) h l = ap (λ (r : List (Option ℕ)). Some (choice_at xs k) ∷ r) (chosen_suc s xss ks (omega arith) (omega arith))

-- the same of what was assigned so far
pub chosen_more : (assigned : List (Option ℕ)) (s : ℕ) (xss : List (List ℕ)) (ks : List (Option ℕ)) (x : Option ℕ) → s < length xss → s < length ks → assigned ≡ chosen (take s xss) (take s ks) → x ≡ assigned_at (get_or xss s []) (get_or ks s None)
    → assigned ++ (x ∷ []) ≡ chosen (take (s + 1) xss) (take (s + 1) ks)
chosen_more assigned s xss ks x h l so is =
    let e = chosen_suc s xss ks h l in
    rw add-one (ap (λ (r : List (Option ℕ)). r ++ (x ∷ [])) so ∙ ap (λ (y : Option ℕ). chosen (take s xss) (take s ks) ++ (y ∷ [])) is ∙ sym e)
