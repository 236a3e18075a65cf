use Rattle.office.proofs.from_rows.Common.{RANKS, empty, stages, staged, gathered, drafted, ◌≡◌, ℕ, ◌+◌}
use Rattle.office.proofs.from_rows.gathering.take_all.Given as goal

abbrev pub invariant-loop-stage : goal.invariant-loop-stage
invariant-loop-stage l = (n : ℕ) → n + l.stage ≡ RANKS + 1 → gathered empty (staged l.rows) ≡ gathered (drafted l.found) (stages n l.stage l.rows)
