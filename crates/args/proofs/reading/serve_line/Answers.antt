use Rattle.std.proofs.Common.{refl}
use Rattle.args.proofs.reading.serve_line.Goals as goal

pub returns : goal.returns
returns c = (refl, c.in_ok-text.ensures, c.port.ensures, c.number.ensures)
