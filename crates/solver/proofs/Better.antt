-- Comparing the total weights of two matchings, one of them best.
use Rattle.std.proofs.Common.{◌≡◌, ℕ, ◌<◌, ◌<ℤ◌, ℤ, ◌∙◌, sym, subst, arith, List}
use Rattle.solver.proofs.Common.{Aim, Precedes, as_read, order, IsSettled, read_alike, Shape, Pair, IsUnbeaten, IsMatching, weight_row, COMPONENTS}

-- rows with the same first places come before one another alike
pub moved : (v w x y : ℕ → ℤ) → ((t : ℕ) → t < COMPONENTS → v t ≡ w t) → ((t : ℕ) → t < COMPONENTS → x t ≡ y t) → Precedes COMPONENTS v x → Precedes COMPONENTS w y
moved v w x y e f p =
    let a : v p.place ≡ w p.place = e p.place p.in_range in
    let b : x p.place ≡ y p.place = f p.place p.in_range in
    record {
      place = p.place;
      in_range = p.in_range;
      alike = λ k h. sym (e k (below k h)) ∙ p.alike k h ∙ f k (below k h);
      smaller = subst (λ (z : ℤ). z <ℤ y p.place) a (subst (λ (z : ℤ). v p.place <ℤ z) b p.smaller);
    }
  where
    below : (k : ℕ) → k < p.place → k < COMPONENTS
    below k h = let r = p.in_range in omega (arith, h, r)

-- the same by an aim
pub moved_by : (aim : Aim) (v w x y : ℕ → ℤ) → ((t : ℕ) → t < COMPONENTS → v t ≡ w t) → ((t : ℕ) → t < COMPONENTS → x t ≡ y t) → order aim v x → order aim w y
moved_by aim v w x y e f = moved (as_read aim v) (as_read aim w) (as_read aim x) (as_read aim y) (read_alike aim v w e) (read_alike aim x y f)

-- what weighs no less than a best matching is best
pub also_best : (aim : Aim) → IsSettled (order aim) → (i : Shape) (M N : List Pair) → IsMatching i M → IsUnbeaten (order aim) i N → ¬ order aim (weight_row i M) (weight_row i N) → IsUnbeaten (order aim) i M
also_best aim settled i M N matching best no_less = record {
  matching = matching;
  unbeaten = λ L m. settled.goes_on (weight_row i L) (weight_row i N) (weight_row i M) (best.unbeaten L m) no_less;
}
