use Rattle.store.proofs.Common.{rules}
use Rattle.store.proofs.edition.edition_of.Goals as goal

pub returns-then-has_none_of-clause-alone : goal.returns-then-has_none_of-clause-alone
returns-then-has_none_of-clause-alone c = search rules
