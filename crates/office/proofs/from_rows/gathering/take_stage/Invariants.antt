use Rattle.office.proofs.from_rows.Common.{at_stage, gathered, drafted, ◌≡◌, drop}
use Rattle.office.proofs.from_rows.gathering.take_stage.Given as goal

abbrev pub invariant-loop-row : goal.invariant-loop-row
invariant-loop-row l = gathered (drafted l.fn.draft) (at_stage l.stage l.rows) ≡ gathered (drafted l.draft) (at_stage l.stage (drop l.row-index l.rows))
