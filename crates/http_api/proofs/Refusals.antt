-- A refusal that is not of a record is written by its name and number alone.
use Rattle.std.proofs.Common.{◌≡◌, ℕ, refl}
use Rattle.http_api.proofs.Common.{Refusal, number_of, status_of, name_of, fault_answer, refusal_text}
use Rattle.office_model.specs.declared.refusal.Refusal.TheVariants as no

pub told_alone : (r : Refusal) → ((n inner : ℕ) → r ≡ no.Row n inner → ⊥) → refusal_text r ≡ fault_answer (status_of r) (name_of r) (number_of r)
told_alone (no.Row n inner) other = absurd (other n inner refl)
told_alone _ other = refl
