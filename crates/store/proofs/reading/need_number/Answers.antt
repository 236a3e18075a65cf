use Rattle.store.proofs.Common.{rules}
use Rattle.store.proofs.reading.need_number.Goals as goal

pub returns-else-are_numbered-clause-err : goal.returns-else-are_numbered-clause-err
returns-else-are_numbered-clause-err c = search rules
