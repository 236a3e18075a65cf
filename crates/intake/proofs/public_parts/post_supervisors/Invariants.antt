use Rattle.std.proofs.Common.{take}
use Rattle.intake.specs.Inside.Posting.{ArePostedSupervisors}
use Rattle.intake.proofs.public_parts.post_supervisors.Given as goal

abbrev pub invariant-loop-l : goal.invariant-loop-l
invariant-loop-l l = ArePostedSupervisors (take l.l l.roll) l.codes.items l.quotas.items
