use Rattle.store.proofs.Common.{rules}
use Rattle.store.proofs.fault.StoreFaultFromError.from.Goals as goal

pub returns : goal.returns
returns c = search rules
