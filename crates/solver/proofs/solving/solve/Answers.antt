use Rattle.std.proofs.Common.{rules}
use Rattle.solver.proofs.solving.solve.Goals as goal

pub found_or_admitted-requires : goal.found_or_admitted-requires
found_or_admitted-requires c = search rules
