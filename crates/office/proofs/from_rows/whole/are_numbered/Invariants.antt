use Rattle.office.proofs.from_rows.Common.{are_numbered, ◌≡◌, suc, drop}
use Rattle.office.proofs.from_rows.whole.are_numbered.Given as goal

abbrev pub invariant-loop-i : goal.invariant-loop-i
invariant-loop-i l = are_numbered 1 l.rounds ≡ are_numbered (suc l.i) (drop l.i l.rounds)
