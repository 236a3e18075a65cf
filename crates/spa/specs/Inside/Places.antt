-- For proofs alone. Rows of n numbers as worths, the first place counting first.
use Rattle.std.proofs.Common.{◌≡◌, ℕ, zero, suc, ◌<◌, List, [], ◌∷◌, length, get_or, ap, refl, arith}
use Rattle.std.specs.Prelude.{ℤ, pos}
use Rattle.std.proofs.lemmas.Cmp.{on_total}
use Rattle.spa.specs.Laws.{IsWorth}
use Rattle.spa.specs.Inside.Lex.{pair_of, int_worth, pair_worth}
use Rattle.spa.specs.Places.{Places, places_of, row, unit_ops, lex_ops}

-- the same numbers as a list
abbrev pub list_of : (n : ℕ) → Places n → List ℤ
list_of zero v = []
list_of (suc n) v = v.0 ∷ list_of n v.1

-- an array of n numbers is its places again
pub list_of-places_of : (n : ℕ) (xs : List ℤ) → length xs ≡ n → list_of n (places_of n (λ t. get_or xs t (pos 0))) ≡ xs
list_of-places_of zero [] h = refl
list_of-places_of zero (x ∷ xs) h = absurd (omega arith)
list_of-places_of (suc n) [] h = absurd (omega arith)
list_of-places_of (suc n) (x ∷ xs) h = ap (λ (ys : List ℤ). x ∷ ys) (list_of-places_of n xs (omega arith))

-- rows that are alike have the same places
pub places_of_same : (n : ℕ) (f g : ℕ → ℤ) → ((t : ℕ) → t < n → f t ≡ g t) → places_of n f ≡ places_of n g
places_of_same zero f g e = refl
places_of_same (suc n) f g e = pair_of (e 0 (omega arith)) (places_of_same n (λ t. f (suc t)) (λ t. g (suc t)) (λ t h. e (suc t) (omega arith)))

-- the row of the places of a row
pub row-places_of : (n : ℕ) (f : ℕ → ℤ) (t : ℕ) → t < n → row n (places_of n f) t ≡ f t
row-places_of zero f t h = absurd (omega arith)
row-places_of (suc n) f zero h = refl
row-places_of (suc n) f (suc t) h = row-places_of n (λ t. f (suc t)) t (omega arith)

-- which keep the laws of worths
pub unit_worth : IsWorth unit_ops
unit_worth = record {
  assoc = λ x y z. refl;
  comm = λ x y. refl;
  unit = λ x. refl;
  undo = λ x y. refl;
  total = on_total (λ x. pos 0) int_worth.total;
  same = λ x y e. refl;
  keeps = λ x y z. refl;
  span_zero = refl;
  span_plus = λ x y. omega arith;
  span_minus = λ x y. omega arith;
}

-- rows keep the laws of worths
pub lex_worth : (n : ℕ) → IsWorth (lex_ops n)
lex_worth zero = unit_worth
lex_worth (suc n) = pair_worth int_worth (lex_worth n)
