-- For proofs alone. Rows of numbers by place, and which of two comes first.
use Rattle.std.specs.Prelude.{ℕ, ℤ, pos, ◌*ℤ◌}

-- by place: n times the number
abbrev pub times : ℕ → (ℕ → ℤ) → ℕ → ℤ
times n v k = pos n *ℤ v k
