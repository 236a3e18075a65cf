use Rattle.std.proofs.Common.{ℕ, ◌<◌, ◌≤◌}
use Rattle.std.specs.Prelude.{slice_index_or}
use Rattle.rule_tests.proofs.admissions.are_quotas.Given as goal

abbrev pub invariant-loop-i : goal.invariant-loop-i
invariant-loop-i l = record {
  small : (k d : ℕ) → k < l.i → slice_index_or l.quotas k d ≤ 500;
}
