use Rattle.std.proofs.Common.{ℕ, ◌<◌, ◌≤◌}
use Rattle.std.specs.Prelude.{slice_index_or}
use Rattle.rule_tests.proofs.admissions.are_offered.Given as goal

abbrev pub invariant-loop-i : goal.invariant-loop-i
invariant-loop-i l = record {
  offered : (k : ℕ) (d : ℕ × ℕ) → k < l.i → (slice_index_or l.projects k d).0 < l.supervisors;
  small : (k : ℕ) (d : ℕ × ℕ) → k < l.i → (slice_index_or l.projects k d).1 ≤ 500;
}
