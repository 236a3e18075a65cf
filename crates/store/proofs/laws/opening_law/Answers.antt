use Rattle.store.proofs.SameTrees.{opens_again}
use Rattle.store.proofs.laws.opening_law.Goals as goal

pub returns : goal.returns
returns c = opens_again
