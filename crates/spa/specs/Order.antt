-- Rows of numbers by place, and which of two comes first.
use Rattle.std.specs.Prelude.{◌≡◌, ℕ, zero, suc, ◌-◌, ◌<◌, ℤ, pos, neg_ℤ, ◌+ℤ◌, ◌<ℤ◌}
use Rattle.spa.specs.declared.TheConstants.{COMPONENTS, RANKS}
use Rattle.spa.specs.declared.aim.Aim.{Aim}
use Rattle.spa.specs.declared.aim.Aim.TheVariants.{Greedy, Generous}

-- which of two rows comes before the other
abbrev pub RowOrder : Type 1
RowOrder = (ℕ → ℤ) → (ℕ → ℤ) → Type 0

-- among the first n places v and w differ, and at the first where they do v has the smaller number
pub record Precedes (n : ℕ) (v w : ℕ → ℤ) : Type 0 where
  pub place : ℕ
  pub in_range : place < n
  pub alike : (k : ℕ) → k < place → v k ≡ w k
  pub smaller : v place <ℤ w place

-- The numbers at the ranks in the order in which an aim reads them, of which the greater is the better: the greedy one
-- reads from the first rank on, the generous one from the last rank back, and there fewer are better.
abbrev pub ranks_read : Aim → (ℕ → ℤ) → ℕ → ℤ
ranks_read Greedy f k = f k
ranks_read Generous f k = neg_ℤ (f (RANKS - suc k))

-- a row as an aim reads it: the size, then the ranks
abbrev pub as_read : Aim → (ℕ → ℤ) → ℕ → ℤ
as_read aim v zero = v 0
as_read aim v (suc k) = ranks_read aim (λ j. v (suc j)) k

-- which of two rows comes first by an aim
abbrev pub order : Aim → RowOrder
order aim v w = Precedes COMPONENTS (as_read aim v) (as_read aim w)

-- the first places alone decide an order, and not to come before goes on
pub record IsSettled (by : RowOrder) : Type 0 where
  pub same : (v w x y : ℕ → ℤ) → ((t : ℕ) → t < COMPONENTS → v t ≡ w t) → ((t : ℕ) → t < COMPONENTS → x t ≡ y t) → ¬ by x v → ¬ by y w
  pub goes_on : (u v w : ℕ → ℤ) → ¬ by v u → ¬ by w v → ¬ by w u

-- by place: nothing
abbrev pub none : ℕ → ℤ
none k = pos 0

-- by place: the sum
abbrev pub plus : (ℕ → ℤ) → (ℕ → ℤ) → ℕ → ℤ
plus v w k = v k +ℤ w k

-- f 0 and so on, up to f (n - 1), added up
abbrev pub sum_below : ℕ → (ℕ → ℤ) → ℤ
sum_below zero f = pos 0
sum_below (suc n) f = sum_below n f +ℤ f n
