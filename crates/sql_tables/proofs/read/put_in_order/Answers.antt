use Rattle.sql_tables.proofs.Common.{answers_always, ranks_by, is_lt, rowid, value_cmp_total, ap, rules}
use Rattle.sql_tables.proofs.read.put_in_order.Goals as goal

pub returns-clause-sorted : goal.returns-clause-sorted
returns-clause-sorted c = c.sort_unstable_by.ensures.sorted _ (ranks_by value_cmp_total rowid) (answers_always _ _ _ (λ f a r g h. ap is_lt (search rules)))
