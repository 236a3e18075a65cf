use Rattle.store.proofs.Common.{ReadsCells}
use Rattle.store.proofs.rows.row_with.Given as goal

abbrev pub invariant-loop-at : goal.invariant-loop-at
invariant-loop-at l = ReadsCells l.kinds l.columns l.at l.cells.items
