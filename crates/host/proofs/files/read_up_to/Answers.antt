use Rattle.std.proofs.Common.{rules}
use Rattle.host.proofs.files.read_up_to.Goals as goal

pub returns : goal.returns
returns g c = search rules depth 3
