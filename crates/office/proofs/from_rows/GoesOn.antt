-- Rounds are read one after another: whether only the last is open, from whether the one before is.
use Rattle.office.proofs.from_rows.Common.{◌&&◌, Round, only_last_open, ◌≡◌, Bool, true, false, not, List, [], ◌∷◌, refl, ap}

-- the rounds after one that is open, or is not
abbrev pub goes_on : Bool → List Round → Bool
goes_on b [] = true
goes_on b (r ∷ rs) = not b && goes_on r.is_open rs

one_on : (r : Round) (rs : List Round) → only_last_open (r ∷ rs) ≡ goes_on r.is_open rs
one_on r [] = refl
one_on r (s ∷ rs) = ap (λ b. not r.is_open && b) (one_on s rs)

pub from_first : (rs : List Round) → only_last_open rs ≡ goes_on false rs
from_first [] = refl
from_first (r ∷ rs) = one_on r rs
