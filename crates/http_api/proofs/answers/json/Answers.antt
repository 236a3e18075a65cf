use Rattle.std.proofs.Common.{List, ℕ, ◌++◌, ap, ◌∙◌}
use Rattle.http_api.proofs.answers.json.Goals as goal

pub returns : goal.returns
returns c = c.push.ensures ∙ ap (λ (head : List ℕ). head ++ c.args.body.now) c.answer_head-out.ensures.items
