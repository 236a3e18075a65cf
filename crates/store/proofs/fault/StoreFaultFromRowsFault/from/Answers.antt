use Rattle.store.proofs.Common.{rules}
use Rattle.store.proofs.fault.StoreFaultFromRowsFault.from.Goals as goal

pub returns-in-Unfit : goal.returns-in-Unfit
returns-in-Unfit c = search rules
