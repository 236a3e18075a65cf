use Rattle.std.proofs.Common.{◌++◌, [], ◌∷◌, string_bytes, arith, ap, ◌∙◌}
use Rattle.reports.proofs.Common.{styled_text, styled_decimal, left, right}
use Rattle.reports.proofs.Widths.{left_code, right_number}
use Rattle.reports.proofs.Lines.{joined}
use Rattle.reports.proofs.places_report.push_load.Goals as goal

pub returns : goal.returns
returns c =
    let code = left_code c.args.width _ _ _ (ap (λ s. styled_text s c.as_str-code.result.now) c.laid_out.ensures) c.as_str-code.ensures.value c.as_str-code.ensures.form in
    let placed = ap (λ s. styled_decimal s c.args.placed) c.laid_out-2.ensures ∙ right_number 5 c.args.placed (omega arith) in
    let quota = ap (λ s. styled_decimal s c.args.quota) c.laid_out-3.ensures ∙ right_number 5 c.args.quota (omega arith) in
    c.in_ok-writeln.ensures.bytes ∙ (λ i. string_bytes c.args.out.now ++ (code i ++ (placed i ++ (quota i ++ 10 ∷ []))))
    ∙ ap (λ l. string_bytes c.args.out.now ++ l) (joined (left c.args.width c.args.code.now) (right 5 c.args.placed) (right 5 c.args.quota) (10 ∷ []))
