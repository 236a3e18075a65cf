-- What a search for a word finds.
use Rattle.std.proofs.Common.{◌≡◌, ℕ, Bool, List, [], ◌∷◌, Some, IfSome, cond, true, false, refl, sym, find}
use Rattle.args.proofs.Common.{bytes_eq, bytes_eq-Decides}

-- what is found passes
find_passes : {X : Type 0} (p : X → Bool) (xs : List X) → IfSome (find p xs) (λ x. p x ≡ true)
find_passes p [] = tt
find_passes p (x ∷ xs) = go (p x) refl (find_passes p xs)
  where
    go : (b : Bool) → p x ≡ b → IfSome (find p xs) (λ x. p x ≡ true) → IfSome (cond b (Some x) (find p xs)) (λ x. p x ≡ true)
    go true e h = e
    go false e h = h

-- the word of what is found is the word that was looked for
pub found_word : {K : Type 0} (word_of : K → List ℕ) (kinds : List K) (k : K) (word : List ℕ) → Some k ≡ find (λ x. bytes_eq (word_of x) word) kinds → word ≡ word_of k
found_word {K = K} word_of kinds k word found =
    let passes : bytes_eq (word_of k) word ≡ true = rw (← found) at (find_passes (λ x. bytes_eq (word_of x) word) kinds) in
    sym ((bytes_eq-Decides (word_of k) word).0 passes)
