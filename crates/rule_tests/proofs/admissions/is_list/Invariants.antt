use Rattle.std.proofs.Common.{ℕ, ◌<◌, ◌≤◌}
use Rattle.std.specs.Prelude.{slice_index_or}
use Rattle.rule_tests.proofs.admissions.is_list.Given as goal

abbrev pub invariant-loop-i : goal.invariant-loop-i
invariant-loop-i g l = record {
  known : (k : ℕ) (d : ℕ × g.row.G.Denot) → k < l.i → (slice_index_or l.list k d).0 < l.projects;
  small : (k : ℕ) (d : ℕ × g.row.G.Denot) → k < l.i → g.G.Worth.ops.span (slice_index_or l.list k d).1 ≤ 1;
}
