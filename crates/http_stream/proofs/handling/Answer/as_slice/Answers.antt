use Rattle.std.proofs.Common.{ap, sym, ◌∙◌}
use Rattle.http_stream.proofs.Common.{answer_bytes}
use Rattle.http_stream.proofs.handling.Answer.as_slice.Goals as goal

pub returns-in-Long : goal.returns-in-Long
returns-in-Long c = c.as_slice-in-Long.ensures.value ∙ ap answer_bytes (sym c.in-Long.is)
