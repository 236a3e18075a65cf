use Rattle.store.proofs.Common.{aims_of, ◌≡◌, ◌++◌, drop}
use Rattle.store.proofs.migration.aims_of.Given as goal

abbrev pub invariant-loop-row : goal.invariant-loop-row
invariant-loop-row l = l.aims.items ++ aims_of (drop l.row-index l.rows) ≡ aims_of l.rows
