use Rattle.std.proofs.Common.{◌≡◌, ℕ, ◌+◌, ◌-◌, ◌*◌, ◌<◌, List, Bool, true, false, length, min, take, get_or, arith, refl, ◌&&◌, nat_lt, IsTrue}
use Rattle.http_stream.proofs.Common.{list_all, digit_value, is_ascii_digit, digits_value, nat_tests, MAX_BODY_BYTES, is_number}
use Rattle.std.proofs.lemmas.List.Folds.{list_all_at}
use Rattle.std.proofs.lemmas.Int.Digits.{digits_value_more}
use Rattle.http_stream.proofs.fields.saturated.Goals as goal

-- a step of a number that is cut off at the limit
saturates : (x y d e t : ℕ) → y ≡ x * 10 + d → d ≡ e → t ≡ min x (MAX_BODY_BYTES + 1) → min (t * 10 + e) (MAX_BODY_BYTES + 1) ≡ min y (MAX_BODY_BYTES + 1)
saturates x y d e t p q f = omega arith

-- the value of a digit
digit_of : (c : ℕ) → is_ascii_digit c ≡ true → digit_value c ≡ c - 48
digit_of c h = grind (arith, nat_tests)

-- a test that is not false is true
tested : (b : Bool) → (b ≡ false → true ≡ false) → b ≡ true
tested true h = refl
tested false h = absurd (let e : true ≡ false = h refl in cc)

-- no test of two parts passes where the second fails
and_false : (a b : Bool) → b ≡ false → IsTrue (a && b) → true ≡ false
and_false true true e h = e
and_false true false e h = cc
and_false false true e h = cc
and_false false false e h = cc

-- each byte of a number is a digit
digit_at : (v : List ℕ) (i : ℕ) → i < length v → IsTrue (is_number v) → is_ascii_digit (get_or v i 0) ≡ true
digit_at v i lt n = tested (is_ascii_digit (get_or v i 0)) (λ no. let f = list_all_at is_ascii_digit v i 0 lt no in and_false (nat_lt 0 (length v)) (list_all is_ascii_digit v) f n)

pub loop-digit-preserved : goal.loop-digit-preserved
loop-digit-preserved c =
    let v = c.args.value.now in
    let i = c.loop-digit.digit-index in
    let more : digits_value 10 (take (i + 1) v) ≡ digits_value 10 (take i v) * 10 + digit_value (get_or v i 0) = digits_value_more 10 v i c.loop-digit-test.true in
    let d : digit_value (get_or v i 0) ≡ get_or v i 0 - 48 = digit_of (get_or v i 0) (digit_at v i c.loop-digit-test.true c.requires) in
    let stepped : min (c.loop-digit.total * 10 + (get_or v i 0 - 48)) (MAX_BODY_BYTES + 1) ≡ min (digits_value 10 (take (i + 1) v)) (MAX_BODY_BYTES + 1)
    = saturates (digits_value 10 (take i v)) (digits_value 10 (take (i + 1) v)) (digit_value (get_or v i 0)) (get_or v i 0 - 48) c.loop-digit.total more d c.loop-digit.invariant in cc
