use Rattle.std.proofs.Common.{inl, inr}
use Rattle.intake.proofs.Common.{cases_Bool, is_code, code_utf8}
use Rattle.intake.proofs.fields.read_code.Goals as goal

pub returns-in_default : goal.returns-in_default
returns-in_default c =
    elim (cases_Bool (is_code c.args.field.now)) [
      | inl is ↦ absurd (c.in_default.ensures.cases.0 (code_utf8 c.args.field.now is))
      | inr other ↦ other
    ]
