use Rattle.store.proofs.Common.{renaming_changes, Add, ◌≡◌, ◌++◌, map}
use Rattle.store.proofs.migration.renaming_changes.Given as goal

abbrev pub invariant-loop-row : goal.invariant-loop-row
invariant-loop-row l = l.changes.items ++ map Add l.row-iterator.rest.items ≡ renaming_changes l.rows l.fn.more.items
