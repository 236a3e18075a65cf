use Rattle.office.proofs.changes.Apart.{rows_apart}
use Rattle.office.proofs.changes.Determine.{rows_determine}
use Rattle.office.proofs.laws.rows_law.Goals as goal

pub returns : goal.returns
returns c = record { apart = rows_apart; one = rows_determine }
