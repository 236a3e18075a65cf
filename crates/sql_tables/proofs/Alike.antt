-- Two lists that are gone through side by side: as many stand in one as in the other, and each is as the one next to it.
use Rattle.sql_tables.proofs.Common.{AllWithin, HoldsAt, are_declared, ◌≡◌, ℕ, zero, suc, ◌<◌, Bool, true, false, List, [], ◌∷◌, length, map, refl, sym, ap, ◌∙◌, arith, zip, ◌&&◌, MatchBool}

module _ {A B C : Type 0} (is : C → B → Bool) (by : A → C) where
  abbrev passes : B × A → Bool
  passes p = is (by p.1) p.0

  -- where each pair passes
  all_alike : (xs : List B) (ys : List A) → length xs ≡ length ys → AllWithin (λ p. passes p ≡ true) (zip xs ys) 0 (length (zip xs ys)) → are_declared is (map by ys) xs ≡ true
  all_alike [] [] e h = refl
  all_alike [] (y ∷ ys) e h = absurd (omega arith)
  all_alike (x ∷ xs) [] e h = absurd (omega arith)
  all_alike (x ∷ xs) (y ∷ ys) e h =
      ap (λ b. b && are_declared is (map by ys) xs) (h 0 (x, y) (omega arith) (omega arith)) ∙ all_alike xs ys (omega arith) (λ j d low high. h (suc j) d (omega arith) (omega arith))

  -- where some pair does not
  one_unlike : (xs : List B) (ys : List A) (k : ℕ) → k < length (zip xs ys) → HoldsAt (λ p. passes p ≡ false) (zip xs ys) k → are_declared is (map by ys) xs ≡ false
  one_unlike [] ys k l h = absurd (omega arith)
  one_unlike (x ∷ xs) [] k l h = absurd (omega arith)
  one_unlike (x ∷ xs) (y ∷ ys) zero l h = ap (λ b. b && are_declared is (map by ys) xs) (h (x, y))
  one_unlike (x ∷ xs) (y ∷ ys) (suc k) l h = also_false (is (by y) x) (one_unlike xs ys k (omega arith) h)
    where
      also_false : (b : Bool) {c : Bool} → c ≡ false → (b && c) ≡ false
      also_false true e = e
      also_false false e = refl

  -- whether each pair passes
  pub alike : (r : Bool) (xs : List B) (ys : List A) → length xs ≡ length ys
      → MatchBool r (AllWithin (λ p. passes p ≡ true) (zip xs ys) 0 (length (zip xs ys))) ((k : ℕ) × (k < length (zip xs ys)) × HoldsAt (λ p. passes p ≡ false) (zip xs ys) k)
      → r ≡ are_declared is (map by ys) xs
  alike true xs ys e h = sym (all_alike xs ys e h)
  alike false xs ys e h = sym (one_unlike xs ys h.0 h.1 h.2)
