use Rattle.store.proofs.Common.{Has, Table, IsListedAlone, take}
use Rattle.store.proofs.reading.are_all_listed.Given as goal

abbrev pub invariant-loop-table : goal.invariant-loop-table
invariant-loop-table l = (table : Table) → Has (take l.table-index l.tables) table → IsListedAlone l.tables l.edition l.schema table
