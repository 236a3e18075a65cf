use Rattle.store.proofs.Common.{sym, ap}
use Rattle.store.specs.Inside.Faults.{of_table}
use Rattle.store.proofs.fault.StoreFaultFromTableFault.from.Goals as goal

pub returns-in-Storage : goal.returns-in-Storage
returns-in-Storage c = sym (ap of_table c.in-Storage.is)
