use Rattle.std.proofs.Common.{rules}
use Rattle.cli.proofs.opening.close_file.Goals as goal

pub returns-clause-closed : goal.returns-clause-closed
returns-clause-closed g c = search rules depth 2

pub returns-clause-failed : goal.returns-clause-failed
returns-clause-failed g c = search rules depth 2
