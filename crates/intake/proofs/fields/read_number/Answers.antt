use Rattle.std.proofs.Common.{◌≡◌, ℕ, ℤ, Ok, ◌∙◌, sym, ap, subst, List, to_z, of_z, w64}
use Rattle.intake.proofs.Common.{signed_decimal, InRange, IsUtf8}
use Rattle.intake.proofs.Numbers.{number_utf8, number_parsed, number_kept}
use Rattle.intake.proofs.fields.read_number.Goals as goal

-- what was parsed is the number
kept : (m n : ℤ) → m ≡ n → InRange n → to_z w64 (of_z w64 m) ≡ n
kept m n q h = ap (λ k. to_z w64 (of_z w64 k)) q ∙ number_kept n h

pub returns-in_default-from_utf8 : goal.returns-in_default-from_utf8
returns-in_default-from_utf8 c = λ n h e. c.in_default-from_utf8.ensures.cases.0 (subst (λ (bs : List ℕ). IsUtf8 bs) (sym e) (number_utf8 n h))

pub returns-in_default-parse : goal.returns-in_default-parse
returns-in_default-parse c = λ n h e. c.in_default-parse.not-Ok n (number_parsed n c.in-Ok.text.now c.parse.result h (c.in-Ok.ensures.cases.0 ∙ e) c.parse.ensures.value.0)

pub returns-then-not-is_in_range : goal.returns-then-not-is_in_range
returns-then-not-is_in_range c = λ n h e.
    let r = number_parsed n c.in-Ok.text.now c.parse.result h (c.in-Ok.ensures.cases.0 ∙ e) c.parse.ensures.value.0 in
    let same : Ok c.in-Ok-parse.number ≡ Ok n = sym c.in-Ok-parse.is ∙ r in
    let q : c.in-Ok-parse.number ≡ n = cc in
    cc (c.if-not-is_in_range.ensures.1 (subst InRange (sym (kept c.in-Ok-parse.number n q h)) h))

pub returns-then-not-is_signed_decimal : goal.returns-then-not-is_signed_decimal
returns-then-not-is_signed_decimal c = λ n h e.
    let r = number_parsed n c.in-Ok.text.now c.parse.result h (c.in-Ok.ensures.cases.0 ∙ e) c.parse.ensures.value.0 in
    let same : Ok c.in-Ok-parse.number ≡ Ok n = sym c.in-Ok-parse.is ∙ r in
    let q : c.in-Ok-parse.number ≡ n = cc in
    cc (c.if-not-is_signed_decimal.ensures.1 (e ∙ ap signed_decimal (sym (kept c.in-Ok-parse.number n q h))))
