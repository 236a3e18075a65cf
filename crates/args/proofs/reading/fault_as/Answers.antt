use Rattle.std.proofs.Common.{rules}
use Rattle.args.proofs.reading.fault_as.Goals as goal

pub returns-in-Ok-3 : goal.returns-in-Ok-3
returns-in-Ok-3 c = search rules

pub returns-in-Ok-2 : goal.returns-in-Ok-2
returns-in-Ok-2 c = search rules
