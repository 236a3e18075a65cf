use Rattle.std.proofs.Common.{map, take}
use Rattle.intake.specs.Inside.Posting.{ArePostedProjects}
use Rattle.intake.proofs.public_parts.post_projects.Given as goal

abbrev pub invariant-loop-p : goal.invariant-loop-p
invariant-loop-p l = ArePostedProjects (map (λ e. e.0) l.supervisors) (take l.p l.roll) l.codes.items l.offers.items
