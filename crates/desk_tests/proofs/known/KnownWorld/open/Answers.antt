use Rattle.std.proofs.Common.{inr, refl}
use Rattle.desk_tests.proofs.known.KnownWorld.open.Goals as goal

-- what the files hold is what is found in them
pub returns-in-Ok-clause-found : goal.returns-in-Ok-clause-found
returns-in-Ok-clause-found g c = λ clean. let found = c.in-Ok.ensures.found clean in record { holds = found.holds; reads = found.reads }

pub returns-in-Err-clause-refused : goal.returns-in-Err-clause-refused
returns-in-Err-clause-refused g c = inr (c.args.self.disks, refl, c.in-Err._left, λ clean. (c.in-Err.ensures.cause clean, c.in-Err.ensures.unharmed clean))
