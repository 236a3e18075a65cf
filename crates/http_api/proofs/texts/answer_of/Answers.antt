use Rattle.std.proofs.Common.{inr, sym, subst}
use Rattle.http_api.proofs.Common.{IsRead}
use Rattle.http_api.proofs.texts.answer_of.Goals as goal

pub returns : goal.returns
returns c = inr (subst IsRead (sym c.in-Ok.is) c.in-Err-reply_answer.ensures.memory, c.refusal_answer-in-Err-reply_answer.ensures)
