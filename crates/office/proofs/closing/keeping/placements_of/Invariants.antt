use Rattle.office.proofs.closing.Common.{placed_by, ◌≡◌, ◌++◌, drop}
use Rattle.office.proofs.closing.keeping.placements_of.Given as goal

abbrev pub invariant-loop-student : goal.invariant-loop-student
invariant-loop-student l = l.placed.items ++ placed_by l.round (drop l.student l.lists) (drop l.student l.places) ≡ placed_by l.round l.lists l.places
