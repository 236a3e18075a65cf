use Rattle.office.proofs.closing.Common.{closing_changes, placement_added, ◌≡◌, ◌++◌, map, drop}
use Rattle.office.proofs.closing.keeping.close_changes.Given as goal

abbrev pub invariant-loop-placement : goal.invariant-loop-placement
invariant-loop-placement l = l.changes.items ++ map placement_added (drop l.placement-index l.placed) ≡ closing_changes l.round l.placed
