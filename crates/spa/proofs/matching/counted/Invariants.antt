use Rattle.std.proofs.Common.{◌≡◌, ℕ, ◌+◌, ◌≤◌, ◌==◌, slice_index}
use Rattle.spa.proofs.Common.{supervisor_of, Pair, in_project, with_supervisor}
use Rattle.spa.proofs.Places.{rest}
use Rattle.spa.proofs.matching.counted.Given as goal

abbrev pub invariant-loop-student : goal.invariant-loop-student
invariant-loop-student l = record {
  projects : (p : ℕ) → slice_index l.counts.projects p + rest (λ (e : Pair). e.project == p) l.student l.instance.shape.students l.places ≡ in_project l.instance.shape l.places p;
  supervisors : (r : ℕ) → slice_index l.counts.supervisors r + rest (λ (e : Pair). supervisor_of l.instance.shape e.project == r) l.student l.instance.shape.students l.places ≡ with_supervisor l.instance.shape l.places r;
  few_in_project : (p : ℕ) → slice_index l.counts.projects p ≤ l.student;
  few_with_supervisor : (r : ℕ) → slice_index l.counts.supervisors r ≤ l.student;
}
