use Rattle.std.proofs.Common.{ℕ, ◌<◌, ◌≤◌, []}
use Rattle.public_result.proofs.Common.{with_supervisor, supervisor_quota, with_lists}
use Rattle.public_result.proofs.quotas.are_supervisors_within.Given as goal

abbrev pub invariant-loop-supervisor : goal.invariant-loop-supervisor
invariant-loop-supervisor l = (p : ℕ) → p < l.supervisor → with_supervisor l.posted p ≤ supervisor_quota (with_lists l.posted []) p
