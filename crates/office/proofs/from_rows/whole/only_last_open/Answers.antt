use Rattle.office.proofs.from_rows.GoesOn.{from_first}
use Rattle.office.proofs.from_rows.whole.only_last_open.Goals as goal

pub loop-round-init : goal.loop-round-init
loop-round-init c = from_first c.args.rounds.now
