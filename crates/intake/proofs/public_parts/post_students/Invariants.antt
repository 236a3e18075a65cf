use Rattle.std.proofs.Common.{map, take}
use Rattle.intake.specs.Inside.Posting.{ArePostedStudents}
use Rattle.intake.proofs.public_parts.post_students.Given as goal

abbrev pub invariant-loop-s : goal.invariant-loop-s
invariant-loop-s l = ArePostedStudents (map (λ e. e.0) l.projects) (map (λ e. e.0) (take l.s l.roll)) (map (λ e. e.1.items) (take l.s l.roll)) l.codes.items l.assigned.items
