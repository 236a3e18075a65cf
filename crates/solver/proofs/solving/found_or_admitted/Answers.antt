use Rattle.std.proofs.Common.{rules}
use Rattle.verdict.proofs.Best.{proved_is_best}
use Rattle.solver.proofs.solving.found_or_admitted.Goals as goal

pub returns-in-Some-clause-best : goal.returns-in-Some-clause-best
returns-in-Some-clause-best c = proved_is_best c.args.instance.now.shape c.args.aim c.in-Some.solved.matching.places.items c.in-Some.solved.prices (rw c.in-Some.is at c.requires)

pub returns-in-Some-clause-taken : goal.returns-in-Some-clause-taken
returns-in-Some-clause-taken c = search rules
