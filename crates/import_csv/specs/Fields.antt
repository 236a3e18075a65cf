-- What a field of an import text stands for: a text, a quota, or a list of codes.
use Rattle.std.specs.Prelude.{ℕ, ◌+◌, ◌-◌, ◌*◌, ◌==◌, ◌&&◌, Bool, List, [], ◌∷◌, length, nat_lt, if◌then◌else◌}
use Rattle.std.specs.Char.{is_ascii_digit}
use Rattle.std.specs.List.{fold, list_all, slice_split}
use Rattle.std.specs.Str.{is_utf8}

-- a field as a text; one that is not UTF-8 is the empty text
abbrev pub text_of : List ℕ → List ℕ
text_of field = if is_utf8 field then field else []

-- 1 to 3 ASCII digits
abbrev pub is_quota : List ℕ → Bool
is_quota field = nat_lt 0 (length field) && nat_lt (length field) 4 && list_all is_ascii_digit field

-- the number that digits write, zeros before it or not
abbrev pub number_of : List ℕ → ℕ
number_of digits = fold (λ number digit. 10 * number + (digit - 48)) 0 digits

-- the quota of a field; a field that is none stands for 9,999, which is above every limit
abbrev pub quota_of : List ℕ → ℕ
quota_of field = if is_quota field then number_of field else 9999

-- the codes of a list, with a space between one and the next; the empty text lists none
abbrev pub choices_of : List ℕ → List (List ℕ)
choices_of [] = []
choices_of (byte ∷ bytes) = slice_split (λ b. b == 32) (byte ∷ bytes)
