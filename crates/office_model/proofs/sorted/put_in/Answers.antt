use Rattle.office_model.proofs.Places.{rises_written, rises_inserted, key_of_parts}
use Rattle.office_model.proofs.sorted.put_in.Goals as goal

pub returns-in-Ok-clause-sorted : goal.returns-in-Ok-clause-sorted
returns-in-Ok-clause-sorted g c = rises_written g.E.Entry.key _ _ _ _ _ c.deref.ensures.value c.in-Ok.ensures.found (key_of_parts (g.E.Entry.key c.args.entry) _ _ c.key-round.ensures.round c.key-round.ensures.code) c.requires

pub returns-in_ok-insert-in-Err-clause-sorted : goal.returns-in_ok-insert-in-Err-clause-sorted
returns-in_ok-insert-in-Err-clause-sorted g c = rises_inserted g.E.Entry.key _ _ _ _ _ _ c.deref.ensures.value c.in-Err.ensures.absent (key_of_parts (g.E.Entry.key c.args.entry) _ _ c.key-round.ensures.round c.key-round.ensures.code) c.in_ok-insert-in-Err.ensures.items c.requires
