use Rattle.intake.proofs.Pieces.{AreCut}
use Rattle.std.proofs.Common.{map}
use Rattle.intake.proofs.fields.pieces.Given as goal

abbrev pub invariant-loop-at : goal.invariant-loop-at
invariant-loop-at l = AreCut l.end l.text (map (λ p. p.now) l.pieces.items) l.start l.at
