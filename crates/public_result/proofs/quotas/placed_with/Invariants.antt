use Rattle.std.proofs.Common.{◌≡◌, ◌+◌, ◌≤◌, ◌==◌}
use Rattle.public_result.proofs.Common.{Pair, offerer, with_supervisor}
use Rattle.public_result.proofs.Counts.{rest}
use Rattle.public_result.proofs.quotas.placed_with.Given as goal

abbrev pub invariant-loop-student : goal.invariant-loop-student
invariant-loop-student l = record {
  counted : l.placed + rest (λ (e : Pair). offerer l.posted e.project == l.supervisor) l.student l.posted.students.items ≡ with_supervisor l.posted l.supervisor;
  few : l.placed ≤ l.student;
}
