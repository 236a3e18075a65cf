use Rattle.store.proofs.Common.{is_old, removal_of, ◌≡◌, ◌++◌, drop, filter, map}
use Rattle.store.proofs.migration.old_removals.Given as goal

abbrev pub invariant-loop-row : goal.invariant-loop-row
invariant-loop-row l = l.changes.items ++ map removal_of (filter is_old (drop l.row-index l.rows)) ≡ map removal_of (filter is_old l.rows)
