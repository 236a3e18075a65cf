use Rattle.std.proofs.Common.{◌≡◌, List, ℕ, [], ◌++◌, ap, ◌∙◌}
use Rattle.http_api.proofs.Common.{fault_body, json_answer}
use Rattle.http_api.proofs.answers.refused.Goals as goal

-- what was appended to an empty body
appended : (name start : List ℕ) (number wide : ℕ) → start ≡ [] → wide ≡ number → start ++ fault_body name wide ≡ fault_body name number
appended name start number wide e w = simp (e, w)

pub returns : goal.returns
returns c =
    let body = appended c.args.name.now c.new-body.result.items c.args.number c.from.result c.new-body.ensures c.from.ensures in
    c.json.ensures ∙ ap (json_answer c.args.status) (c.as_slice.ensures.value ∙ c.push_fault.ensures.items ∙ body)
