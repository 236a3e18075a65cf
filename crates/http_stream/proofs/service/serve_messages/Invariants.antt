use Rattle.std.proofs.Common.{◌≡◌, false}
use Rattle.http_stream.proofs.Common.{SoFar}
use Rattle.http_stream.proofs.service.serve_messages.Given as goal

abbrev pub invariant-loop-answered : goal.invariant-loop-answered
invariant-loop-answered g l = record {
  so_far : SoFar g.H.Handler.step l.initial.desk (g.R.Source.left l.initial.reader) (g.W.Sink.written l.initial.writer)
      (g.R.Source.left l.reader) (g.W.Sink.written l.writer) l.window l.answered l.desk;
  reads : g.R.Source.failures l.reader ≡ g.R.Source.failures l.initial.reader;
  goes_on : g.R.Source.ended l.reader ≡ false;
  writes : g.W.Sink.failures l.writer ≡ g.W.Sink.failures l.initial.writer;
}
