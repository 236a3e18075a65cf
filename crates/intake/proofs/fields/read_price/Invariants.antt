use Rattle.intake.proofs.Numbers.{AreRead}
use Rattle.intake.proofs.fields.read_price.Given as goal

abbrev pub invariant-loop-t : goal.invariant-loop-t
invariant-loop-t l = AreRead l.fields l.price l.t
