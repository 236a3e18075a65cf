use Rattle.store.proofs.Common.{◌≡◌, take, Ok, applying, each_of, Runs}
use Rattle.store.proofs.transaction.apply.Given as goal

abbrev pub invariant-loop-change : goal.invariant-loop-change
invariant-loop-change g l = (l.tx.conn.ghost_name ≡ l.fn.tx.conn.ghost_name) × Runs g.S.Store (each_of applying (take l.change-index l.changes)) (Ok tt) l.fn.tx.conn.now l.tx.conn.now
