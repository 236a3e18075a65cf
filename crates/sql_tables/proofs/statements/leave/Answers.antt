use Rattle.sql_tables.proofs.Runs.{part_err, part_ok}
use Rattle.sql_tables.proofs.Declared.{left, leaving_refused}
use Rattle.sql_tables.proofs.statements.leave.Goals as goal

pub returns-clause-step : goal.returns-clause-step
returns-clause-step g c = part_ok _ _ _ _ _ _ _ _ (left c.args.group _ c.requires _ c.removal.ensures _ _ _) c.in_ok-write.ensures.step

pub returns-in_err-write-clause-step : goal.returns-in_err-write-clause-step
returns-in_err-write-clause-step g c = part_err _ _ _ _ _ _ _ _ c.from_residual.ensures.1 (leaving_refused c.args.group _ c.requires _ c.removal.ensures) c.in_err-write.ensures.step
