use Rattle.std.proofs.Common.{◌≡◌, ℕ, ◌<◌, slice_index_or, Some, None}
use Rattle.public_result.proofs.shape.are_known.Given as goal

abbrev pub invariant-loop-student : goal.invariant-loop-student
invariant-loop-student l = (s p : ℕ) → s < l.student → slice_index_or l.students s None ≡ Some p → p < l.projects
