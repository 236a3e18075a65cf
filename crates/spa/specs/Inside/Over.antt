-- Which of several numbers is over its quota.
use Rattle.std.specs.Prelude.{ℕ, Option, MatchOption}
use Rattle.spa.specs.Matched.{AreWithin, IsFirstOver}

-- the first of n numbers that is not within its quota, or none where each is
abbrev pub IsOver : (ℕ → ℕ) → (ℕ → ℕ) → ℕ → Option ℕ → Type 0
IsOver placed quota n found = MatchOption found (AreWithin placed quota n) (λ p. IsFirstOver placed quota n p)
