use Rattle.sql_tables.proofs.Runs.{part_err, part_ok}
use Rattle.sql_tables.proofs.Declared.{entered, entry_refused}
use Rattle.sql_tables.proofs.statements.enter.Goals as goal

pub returns-clause-step : goal.returns-clause-step
returns-clause-step g c = part_ok _ _ _ _ _ _ _ _ (entered c.args.table _ c.requires c.args.way _ c.text.ensures _ _ _) c.in_ok-write.ensures.step

pub returns-in_err-write-clause-step : goal.returns-in_err-write-clause-step
returns-in_err-write-clause-step g c = part_err _ _ _ _ _ _ _ _ c.from_residual.ensures.1 (entry_refused c.args.table _ c.requires c.args.way _ c.text.ensures) c.in_err-write.ensures.step
