-- For proofs alone. A row of numbers as the code keeps it, read by place.
use Rattle.std.specs.Prelude.{ℕ, zero, suc, ℤ, max, unsigned_abs}

-- the greatest absolute value of the first n places
abbrev pub greatest : ℕ → (ℕ → ℤ) → ℕ
greatest zero f = 0
greatest (suc n) f = max (greatest n f) (unsigned_abs (f n))
