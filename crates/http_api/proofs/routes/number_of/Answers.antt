-- Digits are parsed as the number that they write.
use Rattle.std.proofs.Common.{rules, ◌≡◌, ◌<◌, ◌^◌, ℕ, List, length, nat_lt, ◌&&◌, Bool, true, Some, None, if◌then◌else◌, sym, ap, ◌∙◌, arith}
use Rattle.std.proofs.lemmas.Str.Parse.{numerals_by_value, tells_all_ascii_digits, parse_gives, digits_value_short}
use Rattle.http_api.proofs.Common.{all_ascii_digits, digits_value, lt-ltb}
use Rattle.std.specs.Result.{result_ok}
use Rattle.http_api.specs.Routes.{number_of}
use Rattle.http_api.proofs.routes.number_of.Goals as goal

-- a text that passes the three tests is a number
numbered : (text : List ℕ) → 0 < length text → length text < 5 → all_ascii_digits text ≡ true → number_of text ≡ Some (digits_value 10 text)
numbered text some few digits =
    ap (λ (v : Bool). if v && nat_lt (length text) 5 && all_ascii_digits text then Some (digits_value 10 text) else None) (lt-ltb 0 (length text) some)
    ∙ ap (λ (v : Bool). if v && all_ascii_digits text then Some (digits_value 10 text) else None) (lt-ltb (length text) 5 few)
    ∙ ap (λ (v : Bool). if v then Some (digits_value 10 text) else None) digits

pub returns : goal.returns
returns c =
    let own = numerals_by_value (λ (ds : List ℕ). all_ascii_digits ds ≡ true) tells_all_ascii_digits in
    let text = c.args.text.now in
    let digits : all_ascii_digits text ≡ true = ap all_ascii_digits (sym c.as_bytes.ensures.value) ∙ sym c.all_digits.ensures ∙ c.if-not-all_digits.false in
    let some : 0 < length text = search rules in
    let short : digits_value 10 text < 10 ^ 4 = digits_value_short own text 4 digits c.if-text-gt-MAX_DIGITS.false in
    c.ok.ensures.value ∙ ap result_ok (parse_gives own 32 text c.parse.result c.parse.ensures.value.0 digits some (omega arith)) ∙ sym (numbered text some (omega arith) digits)
