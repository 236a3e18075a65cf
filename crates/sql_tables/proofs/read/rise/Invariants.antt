use Rattle.sql_tables.proofs.Common.{rises, ◌≡◌, length}
use Rattle.sql_tables.proofs.read.rise.Given as goal

abbrev pub invariant-loop-rest : goal.invariant-loop-rest
invariant-loop-rest l = rises l.rows ≡ rises l.rest

abbrev pub decreases-loop-rest : goal.decreases-loop-rest
decreases-loop-rest l = length l.rest
