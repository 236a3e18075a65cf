use Rattle.store.proofs.Common.{rules}
use Rattle.store.proofs.store.Store.load.Goals as goal

-- what is answered is what was read from the tables as they are
pub returns-clause-ok : goal.returns-clause-ok
returns-clause-ok g c = search rules
