use Rattle.std.proofs.Common.{rules}
use Rattle.spa.proofs.matching.total_weight.Goals as goal

pub loop-k-init : goal.loop-k-init
loop-k-init c = search rules
