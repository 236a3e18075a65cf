use Rattle.std.proofs.Common.{◌++◌, [], ◌∷◌, string_bytes, sym, ap, ◌∙◌, append_assoc}
use Rattle.reports.proofs.Common.{styled_text, left, student_line, is_named}
use Rattle.reports.proofs.Widths.{left_code}
use Rattle.reports.proofs.Lines.{chosen}
use Rattle.reports.proofs.students_report.push_student.Goals as goal

pub returns-in_ok-writeln : goal.returns-in_ok-writeln
returns-in_ok-writeln c =
    let code = left_code 16 _ _ _ (ap (λ s. styled_text s c.as_str-code.result.now) c.laid_out.ensures) c.as_str-code.ensures.value c.as_str-code.ensures.form in
    let s = c.args.student.now in
    let label = c.as_str-label.ensures.value in
    c.in_ok-writeln.ensures.bytes ∙ (λ i. string_bytes c.args.out.now ++ (code i ++ (32 ∷ (label i ++ 10 ∷ []))))
    ∙ ap (λ l. string_bytes c.args.out.now ++ l) (sym (append_assoc (left 16 s.code) (32 ∷ s.label) (10 ∷ [])))
    ∙ ap (λ l. string_bytes c.args.out.now ++ l) (chosen student_line (is_named c.args.whom c.args.office.now c.args.round) c.args.student.now (sym c.is_named.ensures ∙ c.if-is_named.true))
