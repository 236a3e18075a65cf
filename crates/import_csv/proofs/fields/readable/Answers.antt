use Rattle.std.proofs.Common.{◌∙◌}
use Rattle.import_csv.proofs.FieldTexts.{text_of_utf8, text_of_other}
use Rattle.import_csv.proofs.fields.readable.Goals as goal

pub returns-in-Ok : goal.returns-in-Ok
returns-in-Ok c = c.in-Ok.ensures.cases.0 ∙ text_of_utf8 c.args.field.now c.in-Ok.ensures.cases.1

pub returns-in-Err : goal.returns-in-Err
returns-in-Err c = text_of_other c.args.field.now c.in-Err.ensures.cases.0
