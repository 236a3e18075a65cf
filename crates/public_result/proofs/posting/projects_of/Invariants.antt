use Rattle.std.proofs.Common.{◌≡◌, take}
use Rattle.public_result.proofs.Common.{chosen}
use Rattle.public_result.proofs.posting.projects_of.Given as goal

abbrev pub invariant-loop-student : goal.invariant-loop-student
invariant-loop-student l = l.assigned.items ≡ chosen (take l.student l.instance.shape.students) (take l.student l.matching.places.items)
