use Rattle.std.proofs.Common.{rules}
use Rattle.args.proofs.program.argument.Goals as goal

pub returns-clause-rule : goal.returns-clause-rule
returns-clause-rule c = search rules
