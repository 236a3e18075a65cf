use Rattle.std.proofs.Common.{◌++◌, [], ◌∷◌, ◌==◌, string_bytes, arith, ap, ◌∙◌}
use Rattle.reports.proofs.Common.{styled_text, styled_decimal, eq-eqb, left, right, placement_line}
use Rattle.reports.proofs.Widths.{left_code, right_number}
use Rattle.reports.proofs.Lines.{joined, chosen}
use Rattle.reports.proofs.placements_report.push_placement.Goals as goal

pub returns-in_ok-writeln : goal.returns-in_ok-writeln
returns-in_ok-writeln c =
    let student = left_code 16 _ _ _ (ap (λ s. styled_text s c.as_str-student.result.now) c.laid_out.ensures) c.as_str-student.ensures.value c.as_str-student.ensures.form in
    let project = left_code 16 _ _ _ (ap (λ s. styled_text s c.as_str-project.result.now) c.laid_out-then-placement-round.ensures) c.as_str-project.ensures.value c.as_str-project.ensures.form in
    let rank = ap (λ s. styled_decimal s c.args.placement.now.rank) c.laid_out-then-placement-round-2.ensures ∙ right_number 2 c.args.placement.now.rank (omega arith) in
    let p = c.args.placement.now in
    c.in_ok-writeln.ensures.bytes ∙ (λ i. string_bytes c.args.out.now ++ (student i ++ (32 ∷ (project i ++ (32 ∷ (rank i ++ 10 ∷ []))))))
    ∙ ap (λ l. string_bytes c.args.out.now ++ l) (joined (left 16 p.student) (32 ∷ left 16 p.project) (32 ∷ right 2 p.rank) (10 ∷ []))
    ∙ ap (λ l. string_bytes c.args.out.now ++ l) (chosen placement_line (λ p. p.round == c.args.round) c.args.placement.now (eq-eqb _ _ c.if-placement-round.true))
