use Rattle.std.proofs.Common.{◌++◌, [], ◌∷◌, string_bytes, arith, ap, ◌∙◌}
use Rattle.reports.proofs.Common.{styled_text, styled_decimal, left, right}
use Rattle.reports.proofs.Widths.{left_code, right_number}
use Rattle.reports.proofs.Lines.{joined_six}
use Rattle.reports.proofs.places_report.push_offer.Goals as goal

pub returns : goal.returns
returns c =
    let s = c.args.supervisor.now in
    let p = c.args.project.now in
    let old = string_bytes c.args.out.now in
    let code = left_code 16 _ _ _ (ap (λ f. styled_text f c.as_str-code.result.now) c.laid_out.ensures) c.as_str-code.ensures.value c.as_str-code.ensures.form in
    let places = ap (λ f. styled_decimal f c.args.places) c.laid_out-2.ensures ∙ right_number 5 c.args.places (omega arith) in
    let by = left_code 16 _ _ _ (ap (λ f. styled_text f c.as_str-by.result.now) c.laid_out-3.ensures) c.as_str-by.ensures.value c.as_str-by.ensures.form in
    let name = c.as_str-name.ensures.value in
    let title = c.as_str-title.ensures.value in
    c.in_ok-writeln.ensures.bytes ∙ (λ i. old ++ (code i ++ (places i ++ (32 ∷ (by i ++ (32 ∷ (name i ++ (9 ∷ (title i ++ 10 ∷ [])))))))))
    ∙ ap (λ l. old ++ l) (joined_six (left 16 p.code) (right 5 c.args.places) (32 ∷ left 16 s.code) (32 ∷ s.label) (9 ∷ p.label) (10 ∷ []))
