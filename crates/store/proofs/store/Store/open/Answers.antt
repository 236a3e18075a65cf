use Rattle.store.proofs.Common.{refl}
use Rattle.store.proofs.store.Store.open.Goals as goal

pub returns-in-Err-clause-unlisted : goal.returns-in-Err-clause-unlisted
returns-in-Err-clause-unlisted g c settled some other = (refl, let e = c.in-Err.ensures.unlisted settled some other in cc)
