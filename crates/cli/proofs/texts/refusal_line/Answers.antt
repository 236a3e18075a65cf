use Rattle.std.proofs.Common.{sym, ◌∙◌}
use Rattle.cli.proofs.Common.{named_line}
use Rattle.cli.proofs.Writers.{named_alone}
use Rattle.cli.proofs.texts.refusal_line.Goals as goal

pub returns-in_default : goal.returns-in_default
returns-in_default c =
    c.named_line.ensures ∙ (λ i. named_line (c.number.ensures.number i) (c.name.ensures i)) ∙ sym (named_alone c.args.refusal c.in_default.not-Row)
