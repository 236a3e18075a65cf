-- The numbers of pairs by rank, and what is printed of them.
use Rattle.std.proofs.Common.{◌≡◌, ℕ, List, [], ◌∷◌, ◌++◌, flat_map, codes, decimal, append_assoc}

-- five texts, joined from the left or from the right
joined : (a b c d e : List ℕ) → ((a ++ b ++ c) ++ d) ++ e ≡ a ++ b ++ c ++ d ++ e
joined a b c d e = simp append_assoc

-- a front, the numbers and an end that were written in order
pub in_turn : (out first second last : List ℕ) (m n : ℕ) (xs ys : List ℕ) → m ≡ n → xs ≡ ys → out ≡ [] → first ≡ out ++ (codes "best size " ++ decimal m ++ codes " profile") → second ≡ first ++ flat_map (λ x. 32 ∷ decimal x) xs → last ≡ second ++ 10 ∷ []
    → last ≡ codes "best size " ++ decimal n ++ codes " profile" ++ flat_map (λ x. 32 ∷ decimal x) ys ++ 10 ∷ []
in_turn out first second last m n xs ys size counts none a b c = rw (c, b, a, none, size, counts) (joined (codes "best size ") (decimal n) (codes " profile") (flat_map (λ x. 32 ∷ decimal x) ys) (10 ∷ []))
