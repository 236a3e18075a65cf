use Rattle.std.proofs.Common.{rules}
use Rattle.solver.proofs.worths.numbers.Goals as goal

pub returns-in-Generous : goal.returns-in-Generous
returns-in-Generous c = search rules
