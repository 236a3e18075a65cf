-- Tests, and what they say.
use Rattle.office.proofs.from_rows.Common.{nat_le, nat_tests, where_so, ◌≡◌, ℕ, ◌≤◌, Bool, true, false, not, Some, refl, arith}

pub within : (n limit : ℕ) → n ≤ limit → nat_le n limit ≡ true
within n limit h = grind (arith, nat_tests)

pub at_most : (n limit : ℕ) → nat_le n limit ≡ true → n ≤ limit
at_most n limit h = grind (arith, nat_tests)

pub not_true : (b : Bool) → not b ≡ true → b ≡ false
not_true true h = cc
not_true false h = refl

-- what is there has the form
pub has_form : {E : Type 0} (b : Bool) (x y : E) → where_so b x ≡ Some y → (b ≡ true) × (x ≡ y)
has_form true x y h = (refl, cc)
has_form false x y h = cc
