-- Rows that have the same places are compared alike.
use Rattle.std.proofs.Common.{◌≡◌, ℕ, ◌<◌, sym, ◌∙◌, arith, ℤ}
use Rattle.public_result.proofs.Common.{read_alike, order, COMPONENTS, Aim, ints}

-- an order of rows goes over to rows with the same places
pub moved : (aim : Aim) (v w x y : ℕ → ℤ) → ((k : ℕ) → k < COMPONENTS → v k ≡ x k) → ((k : ℕ) → k < COMPONENTS → w k ≡ y k) → order aim v w → order aim x y
moved aim v w x y e f b =
    let p = read_alike aim v x e b.place b.in_range in
    let q = read_alike aim w y f b.place b.in_range in
    let s = b.smaller in
    record {
      place = b.place;
      in_range = b.in_range;
      alike = λ k h. let within : k < COMPONENTS = omega (arith, h, b.in_range) in sym (read_alike aim v x e k within) ∙ b.alike k h ∙ read_alike aim w y f k within;
      smaller = omega (arith, ints, p, q, s);
    }
