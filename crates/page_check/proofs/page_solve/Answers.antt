use Rattle.std.proofs.Common.{rules}
use Rattle.page_check.proofs.page_solve.Goals as goal

pub returns-in-Ok : goal.returns-in-Ok
returns-in-Ok c = search rules
