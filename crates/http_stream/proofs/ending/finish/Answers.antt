use Rattle.std.proofs.Common.{subst, ◌∙◌}
use Rattle.http_stream.proofs.Common.{Appends}
use Rattle.http_stream.proofs.ending.finish.Goals as goal

pub returns-clause-wrote : goal.returns-clause-wrote
returns-clause-wrote g c =
    subst (Appends (g.W.Sink.written c.args.writer.now) (g.W.Sink.written c.write_all.new.writer)) (c.as_slice.ensures ∙ c.last_answer-answer.ensures) c.in_ok-write_all.ensures.ok
