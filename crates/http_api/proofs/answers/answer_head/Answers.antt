use Rattle.std.proofs.Common.{◌≡◌, List, ℕ, ◌++◌, ap, ◌∙◌, append_assoc}
use Rattle.http_api.proofs.Common.{status_line, fields}
use Rattle.http_api.proofs.answers.answer_head.Goals as goal

pub returns-clause-items : goal.returns-clause-items
returns-clause-items c =
    let line : c.push-4.new.out.items ≡ status_line c.args.status =
    simp (c.push-4.ensures, c.push-3.ensures, c.as_bytes.ensures.value, c.reason.ensures, c.push-2.ensures, c.push_number.ensures.items, c.from.ensures, c.as_u16.ensures.value, c.push.ensures, c.new-out.ensures, append_assoc) in
    let rest : c.push-8.new.out.items ≡ c.push-4.new.out.items ++ fields c.args.kind.now c.args.len =
    simp (c.push-8.ensures, c.push_number-2.ensures.items, c.push-7.ensures, c.push-6.ensures, c.as_bytes-2.ensures.value, c.push-5.ensures, append_assoc) in
    rest ∙ ap (λ (head : List ℕ). head ++ fields c.args.kind.now c.args.len) line
