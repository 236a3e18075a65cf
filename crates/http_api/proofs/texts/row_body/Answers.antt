use Rattle.std.proofs.Common.{append_assoc}
use Rattle.http_api.proofs.texts.row_body.Goals as goal

pub returns-clause-items : goal.returns-clause-items
returns-clause-items c = simp (c.push.ensures, c.push_labelled-2.ensures.items, c.push_labelled.ensures.items, c.new-out.ensures, append_assoc)
