use Rattle.std.proofs.Common.{◌≡◌, ◌-◌, false, length}
use Rattle.http_stream.proofs.Common.{MAX_MESSAGE_BYTES, Grows}
use Rattle.http_stream.proofs.window.Window.read_next.Given as goal

abbrev pub invariant-reading : goal.invariant-reading
invariant-reading g l = record {
  grows : Grows l.initial.self l.self (g.R.Source.left l.initial.reader) (g.R.Source.left l.reader);
  count : g.R.Source.failures l.reader ≡ g.R.Source.failures l.initial.reader;
  goes_on : g.R.Source.ended l.reader ≡ false;
}

abbrev pub decreases-reading : goal.decreases-reading
decreases-reading g l = MAX_MESSAGE_BYTES - length l.self
