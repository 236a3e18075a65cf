-- The words of a student's own check, as far as they were written.
use Rattle.std.proofs.Common.{◌≡◌, ℕ, ◌+◌, ◌≤◌, ◌++◌, List, [], ◌∷◌, flat_map, length, map, take, Option, Some, None, ap, refl, ◌∙◌}
use Rattle.std.proofs.lemmas.List.{take_all}
use Rattle.args.proofs.Common.{IsSomeAnd, Text}

-- what is said of the word that there is
pub of_word : (o : Option Text) (P Q : Text → Type 0) → ((code : Text) → P code → Q code) → IsSomeAnd o P → IsSomeAnd o Q
of_word None P Q f h = h
of_word (Some x) P Q f h = f x h

-- the pieces of all items, by other words
pub pieces_all : {X Y : Type 0} (f : Y → Text) (h : X → Y) (xs : List X) (ys : List Y) (i : ℕ) → length xs ≤ i → map h xs ≡ ys → flat_map (λ x. f (h x)) (take i xs) ≡ flat_map f ys
pieces_all {X = X} f h xs ys i past are = ap (flat_map (λ x. f (h x))) (take_all i xs past) ∙ go xs ∙ ap (flat_map f) are
  where
    go : (xs : List X) → flat_map (λ x. f (h x)) xs ≡ flat_map f (map h xs)
    go [] = refl
    go (x ∷ xs) = ap (λ (l : Text). f (h x) ++ l) (go xs)
