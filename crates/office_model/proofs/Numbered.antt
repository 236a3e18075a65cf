-- Numbers one after another, and what f gives of each.
use Rattle.office_model.proofs.Common.{range_with_len, ◌≡◌, ℕ, zero, suc, ◌+◌, ◌<◌, List, [], ◌∷◌, length, map, get_or, refl, ap, ◌∙◌, arith}

-- a list of n numbers, of which the k-th is f (a + k)
pub listed : (xs : List ℕ) (f : ℕ → ℕ) (a n : ℕ) → length xs ≡ n → ((k : ℕ) → k < n → get_or xs k 0 ≡ f (a + k)) → xs ≡ map f (range_with_len a n)
listed [] f a zero h e = refl
listed [] f a (suc n) h e = absurd (omega arith)
listed (x ∷ xs) f a zero h e = absurd (omega arith)
listed (x ∷ xs) f a (suc n) h e =
    let first : a + 0 ≡ a = omega arith in
    ap (λ (y : ℕ). y ∷ xs) (e 0 (omega arith) ∙ ap f first)
    ∙ ap (λ (l : List ℕ). f a ∷ l) (listed xs f (a + 1) n (omega arith) (λ k l. (let next : a + suc k ≡ (a + 1) + k = omega arith in e (suc k) (omega arith) ∙ ap f next)))
