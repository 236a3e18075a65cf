use Rattle.store.proofs.Common.{renamed_row, ◌≡◌, ◌++◌, map}
use Rattle.store.proofs.migration.all_renamed.Given as goal

abbrev pub invariant-loop-row : goal.invariant-loop-row
invariant-loop-row l = l.all.items ++ map renamed_row l.row-iterator.rest.items ≡ map renamed_row l.fn.rows.items
