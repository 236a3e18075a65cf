use Rattle.std.proofs.Common.{rules}
use Rattle.cli.proofs.opening.open_file.Goals as goal

pub returns-in-Ok-clause-plain : goal.returns-in-Ok-clause-plain
returns-in-Ok-clause-plain g c = search rules depth 3
