use Rattle.std.proofs.Common.{take}
use Rattle.intake.proofs.Common.{pieces, draft_of}
use Rattle.intake.proofs.Bad.{IsRead}
use Rattle.intake.proofs.read.read.Given as goal

abbrev pub invariant-loop-n : goal.invariant-loop-n
invariant-loop-n l = IsRead l.kind (take l.n (pieces l.text)) (draft_of l.draft)
