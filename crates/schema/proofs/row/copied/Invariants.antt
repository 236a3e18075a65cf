use Rattle.std.proofs.Common.{◌≡◌, take}
use Rattle.schema.proofs.row.copied.Given as goal

abbrev pub invariant-loop-cell : goal.invariant-loop-cell
invariant-loop-cell l = l.copy.items ≡ take l.cell-index l.cells
