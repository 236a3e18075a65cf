use Rattle.store.proofs.Common.{is_old, renamed_row, ◌≡◌, ◌++◌, drop, filter, map}
use Rattle.store.proofs.migration.all_old_renamed.Given as goal

abbrev pub invariant-loop-row : goal.invariant-loop-row
invariant-loop-row l = l.all.items ++ map renamed_row (filter is_old (drop l.row-index l.rows)) ≡ map renamed_row (filter is_old l.rows)
