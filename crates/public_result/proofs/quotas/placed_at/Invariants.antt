use Rattle.std.proofs.Common.{◌≡◌, ◌+◌, ◌≤◌, ◌==◌}
use Rattle.public_result.proofs.Common.{Pair, in_project}
use Rattle.public_result.proofs.Counts.{rest}
use Rattle.public_result.proofs.quotas.placed_at.Given as goal

abbrev pub invariant-loop-student : goal.invariant-loop-student
invariant-loop-student l = record {
  counted : l.placed + rest (λ (e : Pair). e.project == l.project) l.student l.posted.students.items ≡ in_project l.posted l.project;
  few : l.placed ≤ l.student;
}
