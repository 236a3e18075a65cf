use Rattle.store.proofs.Common.{Has, Table, IsElsewhere, ◌≢◌, take}
use Rattle.store.proofs.reading.is_alone.Given as goal

abbrev pub invariant-loop-other : goal.invariant-loop-other
invariant-loop-other l = (other : Table) → Has (take l.other-index l.tables) other → other ≢ l.table → IsElsewhere other l.tree l.schema
