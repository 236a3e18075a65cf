use Rattle.std.proofs.Common.{◌≡◌, drop, false}
use Rattle.http_stream.proofs.Common.{has_line}
use Rattle.http_stream.proofs.front.has_line.Given as goal

abbrev pub invariant-loop-b : goal.invariant-loop-b
invariant-loop-b l = has_line l.begun (drop l.b-index l.buf) ≡ has_line false l.buf
