use Rattle.std.proofs.Common.{◌≡◌, ◌≤◌, ◌-◌, length, take}
use Rattle.http_stream.proofs.Common.{Appends}
use Rattle.http_stream.proofs.writing.write_all.Given as goal

abbrev pub invariant-writing : goal.invariant-writing
invariant-writing g l = record {
  wrote : Appends (g.W.Sink.written l.initial.writer) (g.W.Sink.written l.writer) (take l.at l.bytes);
  within : l.at ≤ length l.bytes;
  count : g.W.Sink.failures l.writer ≡ g.W.Sink.failures l.initial.writer;
}

abbrev pub decreases-writing : goal.decreases-writing
decreases-writing g l = length l.bytes - l.at
