use Rattle.sql_tables.proofs.Common.{bound, sql_values, ◌≡◌, length, take}
use Rattle.sql_tables.proofs.write.values.Given as goal

abbrev pub invariant-loop-at : goal.invariant-loop-at
invariant-loop-at l = (length l.values ≡ 4) × (bound (take l.at l.values) ≡ sql_values (take l.at l.cells))
