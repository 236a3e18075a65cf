use Rattle.std.proofs.Common.{◌∙◌, rules, tests, arith, ◌<◌, length}
use Rattle.std.specs.Char.{is_ascii_digit}
use Rattle.std.proofs.lemmas.Iterator.{YieldsList-from_slice}
use Rattle.std.proofs.lemmas.Iterator.Search.{all_from_yields_List}
use Rattle.import_csv.proofs.FieldTexts.{quota_of_digits}
use Rattle.import_csv.proofs.fields.is_quota.Goals as goal

pub returns-then-field-le-MAX_DIGITS : goal.returns-then-field-le-MAX_DIGITS
returns-then-field-le-MAX_DIGITS c =
    let low : 0 < length c.args.field.now = grind (arith, tests) in
    all_from_yields_List is_ascii_digit _ _ _ c.all.ensures.ran (YieldsList-from_slice c.args.field.now cc) (λ x b q k. search (rules, tests))
    ∙ quota_of_digits c.args.field.now low c.if-field-le-MAX_DIGITS.true.1
