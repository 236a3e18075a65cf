use Rattle.verdict.proofs.Best.{proved_is_best}
use Rattle.verdict.proofs.laws.verdict_law.Goals as goal

pub returns : goal.returns
returns c = proved_is_best c.args.instance.now.shape
