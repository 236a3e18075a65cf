use Rattle.std.proofs.Common.{sym, ◌∙◌}
use Rattle.http_api.proofs.Common.{fault_answer}
use Rattle.http_api.proofs.Refusals.{told_alone}
use Rattle.http_api.proofs.texts.refusal_answer.Goals as goal

pub returns-in_default : goal.returns-in_default
returns-in_default c =
    c.refused.ensures ∙ (λ i. fault_answer (c.status_of-in_default.ensures.value i) (c.name.ensures i) (c.number.ensures.number i))
    ∙ sym (told_alone c.args.refusal c.in_default.not-Row)
