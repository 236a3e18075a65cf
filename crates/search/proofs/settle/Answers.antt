use Rattle.verdict.proofs.Best.{proved_is_best}
use Rattle.search.proofs.settle.Goals as goal

pub returns-in-Err-clause-best : goal.returns-in-Err-clause-best
returns-in-Err-clause-best c = proved_is_best c.args.instance.now.shape c.args.aim c.args.proved.matching.places.items c.args.proved.prices c.requires
