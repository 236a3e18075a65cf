use Rattle.office.proofs.from_rows.Common.{is_distinct, ◌≡◌, drop}
use Rattle.office.proofs.from_rows.whole.is_distinct.Given as goal

abbrev pub invariant-loop-i : goal.invariant-loop-i
invariant-loop-i l = is_distinct l.codes ≡ is_distinct (drop l.i l.codes)
