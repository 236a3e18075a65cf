use Rattle.std.proofs.Common.{rules}
use Rattle.args.proofs.table.rows.Goals as goal

pub returns : goal.returns
returns c = search rules
