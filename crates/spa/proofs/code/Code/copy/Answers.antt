use Rattle.std.proofs.Common.{rules}
use Rattle.spa.proofs.code.Code.copy.Goals as goal

pub returns : goal.returns
returns c = search rules
