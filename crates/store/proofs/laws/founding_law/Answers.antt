use Rattle.store.proofs.Nothing.{opens_nothing}
use Rattle.store.proofs.laws.founding_law.Goals as goal

pub returns : goal.returns
returns c = opens_nothing
