use Rattle.store.proofs.Common.{Table, AreLeftAmong, List, subst}
use Rattle.store.proofs.quiet.are_left.Goals as goal

pub returns-clause-sound : goal.returns-clause-sound
returns-clause-sound c h = subst (λ (tables : List Table). AreLeftAmong tables c.args.schema.now) c.rolls_of.ensures (c.are_left_among.ensures.sound h)
