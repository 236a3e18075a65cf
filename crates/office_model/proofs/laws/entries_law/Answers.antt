use Rattle.office_model.proofs.EntryChange.{find-put, find-take_out}
use Rattle.office_model.proofs.Same.{same_found}
use Rattle.office_model.proofs.laws.entries_law.Goals as goal

pub returns-clause-put : goal.returns-clause-put
returns-clause-put g c = find-put g.E.Entry.key

pub returns-clause-taken : goal.returns-clause-taken
returns-clause-taken g c = find-take_out g.E.Entry.key

pub returns-clause-one : goal.returns-clause-one
returns-clause-one g c = same_found g.E.Entry.key
