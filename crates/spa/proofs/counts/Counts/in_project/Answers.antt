use Rattle.std.proofs.Common.{rules}
use Rattle.spa.proofs.counts.Counts.in_project.Goals as goal

pub returns : goal.returns
returns c = search rules
