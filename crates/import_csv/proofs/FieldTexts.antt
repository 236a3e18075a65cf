-- What fields stand for, as the code finds it out.
use Rattle.std.proofs.Common.{◌≡◌, ◌<◌, ◌≤◌, ℕ, List, [], length, refl, inl, inr, arith}
use Rattle.std.specs.Char.{is_ascii_digit}
use Rattle.std.specs.List.{list_all}
use Rattle.std.specs.Str.{IsUtf8, is_utf8}
use Rattle.std.proofs.lemmas.Bool.{cases_Bool}
use Rattle.std.proofs.lemmas.Bool.Decides.{nat_tests}
use Rattle.std.proofs.lemmas.Str.{IsUtf8-from_is_utf8, is_utf8-from_IsUtf8}
use Rattle.import_csv.specs.Fields.{text_of, is_quota}

-- a field of UTF-8 is its own text
pub text_of_utf8 : (field : List ℕ) → IsUtf8 field → field ≡ text_of field
text_of_utf8 field h = rw (is_utf8-from_IsUtf8 field h) refl

-- another field has no text
pub text_of_other : (field : List ℕ) → (IsUtf8 field → ⊥) → [] ≡ text_of field
text_of_other field h = elim (cases_Bool (is_utf8 field)) [
  | inl e ↦ absurd (h (IsUtf8-from_is_utf8 field e))
  | inr e ↦ rw e refl
]

-- of 1 to 3 bytes, digits alone are a quota
pub quota_of_digits : (field : List ℕ) → 0 < length field → length field ≤ 3 → list_all is_ascii_digit field ≡ is_quota field
quota_of_digits field low high = grind (arith, nat_tests)
