use Rattle.store.proofs.Common.{AreReadRows, take}
use Rattle.store.proofs.rows.rows_with.Given as goal

abbrev pub invariant-loop-columns : goal.invariant-loop-columns
invariant-loop-columns l = AreReadRows l.table (take l.columns-index l.all) l.rows.items
