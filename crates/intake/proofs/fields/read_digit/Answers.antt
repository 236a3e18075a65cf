use Rattle.std.proofs.Common.{ℕ, ◌-◌, get_or, arith}
use Rattle.intake.proofs.Numbers.{digit_read, minus_read}
use Rattle.intake.proofs.fields.read_digit.Goals as goal

pub returns-then-field-eq1 : goal.returns-then-field-eq1
returns-then-field-eq1 c =
    let d : ℕ = get_or c.args.field.now 0 0 - 48 in
    digit_read c.args.field.now d c.if-field-eq1.true (omega (arith, c.if-field-lt48.false)) (omega (arith, c.if-field-gt57.false, c.if-field-lt48.false))

pub returns : goal.returns
returns c =
    let d : ℕ = get_or c.args.field.now 1 0 - 48 in
    minus_read c.args.field.now d (omega (arith, c.if-field-ne2.false)) (omega (arith, c.if-field-ne45.false)) (omega (arith, c.if-field-lt49.false)) (omega (arith, c.if-field-lt49.false)) (omega (arith, c.if-field-gt57-2.false, c.if-field-lt49.false))
