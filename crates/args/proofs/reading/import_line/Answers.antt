use Rattle.std.proofs.Common.{refl}
use Rattle.args.proofs.reading.import_line.Goals as goal

pub returns : goal.returns
returns c = (refl, c.in_ok-text.ensures, c.import.ensures, c.in_ok-text-2.ensures, c.in_ok-text-3.ensures)
