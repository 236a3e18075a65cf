use Rattle.office.proofs.from_rows.Common.{only_last_open, ◌≡◌, drop}
use Rattle.office.proofs.from_rows.GoesOn.{goes_on}
use Rattle.office.proofs.from_rows.whole.only_last_open.Given as goal

abbrev pub invariant-loop-round : goal.invariant-loop-round
invariant-loop-round l = only_last_open l.rounds ≡ goes_on l.was_open (drop l.round-index l.rounds)
