use Rattle.std.proofs.Common.{rules}
use Rattle.cli.proofs.outputs.Outputs.refuse.Goals as goal

pub returns : goal.returns
returns g c = search rules
