use Rattle.std.proofs.Common.{arith, refl}
use Rattle.http_stream.proofs.Windows.{line_found, line_lacks}
use Rattle.http_stream.proofs.front.has_line.Goals as goal

pub loop-b-init : goal.loop-b-init
loop-b-init c = refl

pub bounds-buf-b-index : goal.bounds-buf-b-index
bounds-buf-b-index c = c.loop-b-test.true

pub returns-then-begun : goal.returns-then-begun
returns-then-begun c = line_found c.loop-b.begun c.args.buf.now c.loop-b.b-index c.loop-b.invariant c.loop-b-test.true c.if-b-eq10.true c.if-begun.true

pub loop-b-smaller : goal.loop-b-smaller
loop-b-smaller c = omega (arith, c.loop-b-test.true)

pub returns : goal.returns
returns c = line_lacks c.loop-b.begun c.args.buf.now c.loop-b.b-index c.loop-b.invariant (omega (arith, c.loop-b-test.false))
