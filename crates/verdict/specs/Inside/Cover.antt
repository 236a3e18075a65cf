-- What prices do not cover of one student's list.
use Rattle.std.specs.Prelude.{ℕ, ◌<◌, ◌≤◌}
use Rattle.spa.specs.Order.{RowOrder}
use Rattle.spa.specs.Shape.{Shape, IsPlaceOf, list_of}
use Rattle.verdict.specs.Verdict.{IsUncoveredAt}
use Rattle.verdict.specs.declared.prices.Prices.{Prices}

-- each place of the student's list is covered
abbrev pub IsListCovered : RowOrder → Shape → Prices → ℕ → Type 0
IsListCovered order i p s = (k : ℕ) → IsPlaceOf (list_of i s) k → ¬ IsUncoveredAt order i p s k

-- the place is the first of the list that is not
abbrev pub IsFirstPlace : RowOrder → Shape → Prices → ℕ → ℕ → Type 0
IsFirstPlace order i p s k =
    IsPlaceOf (list_of i s) k × IsUncoveredAt order i p s k × ((j : ℕ) → 1 ≤ j → j < k → ¬ IsUncoveredAt order i p s j)
