use Rattle.std.proofs.Common.{◌≡◌, Bool, true, false, inr, refl, sym, ◌∙◌}
use Rattle.http_api.proofs.Json.{json_of-read, json_of-unread}
use Rattle.http_api.proofs.Common.{view}
use Rattle.http_api.proofs.members.read_json.Goals as goal

pub returns-in-Ok-clause-ok : goal.returns-in-Ok-clause-ok
returns-in-Ok-clause-ok c = json_of-read c.args.body.now (view c.in-Ok.value) c.in-Ok.ensures.ok.0 c.in-Ok.ensures.ok.1

-- the test said that memory did not run out
not_both : (b : Bool) → b ≡ false → b ≡ true → ⊥
not_both b isnt is = absurd (let e : true ≡ false = sym is ∙ isnt in cc)

pub returns-else-is_memory-clause-err : goal.returns-else-is_memory-clause-err
returns-else-is_memory-clause-err c = inr (refl, json_of-unread c.args.body.now (λ utf8. c.in-Err.ensures.err (λ memory. not_both c.is_memory.result c.if-is_memory.false (c.is_memory.ensures.1 memory)) utf8))
