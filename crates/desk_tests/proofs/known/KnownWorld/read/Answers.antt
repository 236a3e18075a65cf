use Rattle.std.proofs.Common.{inl, inr, refl, rules, Some}
use Rattle.desk_tests.proofs.known.KnownWorld.read.Goals as goal

pub returns-in-Ok : goal.returns-in-Ok
returns-in-Ok g c = (Some c.args.self.now.text.now, inr (inl (search rules, refl)), c.in-Ok.ensures)
