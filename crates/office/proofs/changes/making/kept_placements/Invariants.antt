use Rattle.office.proofs.changes.Common.{◌≡◌, take}
use Rattle.office.specs.changes.Changes as spec
use Rattle.office.proofs.changes.making.kept_placements.Given as goal

abbrev pub invariant-loop-placement : goal.invariant-loop-placement
invariant-loop-placement l = l.kept.items ≡ spec.kept_placements l.round (take l.placement-index l.placements)
