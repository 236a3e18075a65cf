use Rattle.store.proofs.Common.{Has, is_there, Table, shape_of, ◌≡◌, take, false}
use Rattle.store.proofs.edition.has_none_of.Given as goal

abbrev pub invariant-loop-table : goal.invariant-loop-table
invariant-loop-table l = (table : Table) → Has (take l.table-index l.tables) table → is_there l.schema (shape_of table).name ≡ false
