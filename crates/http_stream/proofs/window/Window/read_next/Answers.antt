use Rattle.std.proofs.Common.{arith}
use Rattle.http_stream.proofs.ReaderEnd.{at_none}
use Rattle.http_stream.proofs.window.Window.read_next.Goals as goal

-- what came leaves less room
pub reading-smaller : goal.reading-smaller
reading-smaller g c = let more = at_none _ _ c.in_default.is c.in_ok-found.ensures.none in omega (arith, more.0, more.1.0)
