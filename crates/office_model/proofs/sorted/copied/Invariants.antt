use Rattle.office_model.proofs.Common.{◌≡◌, take}
use Rattle.office_model.proofs.sorted.copied.Given as goal

abbrev pub invariant-loop-entry : goal.invariant-loop-entry
invariant-loop-entry g l = l.entries.items ≡ take l.entry-index l.from
