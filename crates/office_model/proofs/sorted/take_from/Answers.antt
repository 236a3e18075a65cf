use Rattle.office_model.proofs.Places.{rises_removed}
use Rattle.office_model.proofs.sorted.take_from.Goals as goal

pub returns-in-Ok-clause-sorted : goal.returns-in-Ok-clause-sorted
returns-in-Ok-clause-sorted g c = rises_removed g.E.Entry.key _ _ _ _ _ c.deref.ensures.value c.in-Ok.ensures.found c.remove.ensures.items c.requires
