use Rattle.store.proofs.Available.{takes_changes}
use Rattle.store.proofs.laws.available_law.Goals as goal

pub returns : goal.returns
returns c = takes_changes
