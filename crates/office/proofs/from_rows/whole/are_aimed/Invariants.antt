use Rattle.office.proofs.from_rows.Common.{are_aimed, ◌≡◌, drop}
use Rattle.office.proofs.from_rows.whole.are_aimed.Given as goal

abbrev pub invariant-loop-i : goal.invariant-loop-i
invariant-loop-i l = are_aimed l.aims l.rounds ≡ are_aimed (drop l.i l.aims) (drop l.i l.rounds)
