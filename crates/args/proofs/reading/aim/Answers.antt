use Rattle.std.proofs.Common.{rules}
use Rattle.args.proofs.reading.aim.Goals as goal

pub returns-in-Some : goal.returns-in-Some
returns-in-Some c = search rules
