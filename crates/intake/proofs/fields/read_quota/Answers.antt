use Rattle.std.proofs.Common.{◌≡◌, ℕ, decimal, Ok, ◌∙◌, sym, ap, subst, List, arith}
use Rattle.intake.proofs.Common.{IsUtf8}
use Rattle.intake.proofs.Numbers.{quota_utf8, quota_parsed}
use Rattle.intake.proofs.fields.read_quota.Goals as goal

pub returns-in_default : goal.returns-in_default
returns-in_default c = λ n h e. c.in_default.ensures.cases.0 (subst (λ (bs : List ℕ). IsUtf8 bs) (sym e) (quota_utf8 n h))

pub returns-in_default-parse : goal.returns-in_default-parse
returns-in_default-parse c = λ n h e. c.in_default-parse.not-Ok n (quota_parsed n c.in-Ok.text.now c.parse.result h (c.in-Ok.ensures.cases.0 ∙ e) c.parse.ensures.value.0)

pub returns-then-quota-gt-MAX_QUOTA : goal.returns-then-quota-gt-MAX_QUOTA
returns-then-quota-gt-MAX_QUOTA c = λ n h e.
    let r = quota_parsed n c.in-Ok.text.now c.parse.result h (c.in-Ok.ensures.cases.0 ∙ e) c.parse.ensures.value.0 in
    let same : Ok c.in-Ok-parse.quota ≡ Ok n = sym c.in-Ok-parse.is ∙ r in
    let q : c.in-Ok-parse.quota ≡ n = cc in
    omega (arith, c.if-quota-gt-MAX_QUOTA.true)

pub returns-then-not-is_decimal : goal.returns-then-not-is_decimal
returns-then-not-is_decimal c = λ n h e.
    let r = quota_parsed n c.in-Ok.text.now c.parse.result h (c.in-Ok.ensures.cases.0 ∙ e) c.parse.ensures.value.0 in
    let same : Ok c.in-Ok-parse.quota ≡ Ok n = sym c.in-Ok-parse.is ∙ r in
    let q : c.in-Ok-parse.quota ≡ n = cc in
    cc (c.if-not-is_decimal.ensures.1 (e ∙ ap decimal (sym q)))
