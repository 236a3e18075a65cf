use Rattle.store.proofs.Common.{◌≡◌, take, Ok, each_of, making, Runs}
use Rattle.store.proofs.transaction.make_each.Given as goal

abbrev pub invariant-loop-table : goal.invariant-loop-table
invariant-loop-table g l = (l.tx.conn.ghost_name ≡ l.fn.tx.conn.ghost_name) × Runs g.S.Store (each_of making (take l.table-index l.tables)) (Ok tt) l.fn.tx.conn.now l.tx.conn.now
