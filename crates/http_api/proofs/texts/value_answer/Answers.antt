use Rattle.std.proofs.Common.{◌≡◌, ◌∙◌, ℕ, List, IfOk, subst}
use Rattle.http_api.proofs.Common.{answer_bytes, json_type, typed_answer}
use Rattle.http_api.proofs.texts.value_answer.Goals as goal

pub returns : goal.returns
returns c =
    subst (λ (body : List ℕ). IfOk c.with_head.result (λ answer. answer_bytes answer ≡ typed_answer 200 json_type body)) (c.as_str.ensures.value ∙ c.in_ok-body.ensures.text c.requires) c.with_head.ensures
