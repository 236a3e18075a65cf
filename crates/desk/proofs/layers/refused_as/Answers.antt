use Rattle.std.proofs.Common.{rules}
use Rattle.desk.proofs.layers.refused_as.Goals as goal

pub returns-in-Fields : goal.returns-in-Fields
returns-in-Fields c = search rules
