-- Cells are the same where the keys that they give are.
use Rattle.office.proofs.changes.Common.{◌&&◌, ◌==◌, bytes_eq, cases_eq, eqb-true, eq-eqb, false_from_ne_true, same_key, same_code, same_round, other_round, ◌≡◌, ℕ, Bool, true, false, List, [], inl, inr, refl, sym, ◌∙◌}

-- a test and nothing more
pub and_true : (b : Bool) → (b && true) ≡ b
and_true true = refl
and_true false = refl

-- numbers
pub number_test : (n m : ℕ) → ((n == m) && true) ≡ same_key (n, []) (m, [])
number_test n m = and_true (n == m) ∙ elim (cases_eq n m) [
  | inl same ↦ eq-eqb n m same ∙ sym (same_round n m same)
  | inr other ↦ false_from_ne_true (n == m) (λ h. other (eqb-true n m h)) ∙ sym (other_round n m other)
]

-- codes
pub code_test : (a b : List ℕ) → (bytes_eq a b && true) ≡ same_key (0, a) (0, b)
code_test a b = and_true (bytes_eq a b) ∙ sym (same_code a b)
