use Rattle.std.proofs.Common.{ℕ, ◌<◌, [], slice_index_or, None}
use Rattle.public_result.proofs.Common.{IsContent, order}
use Rattle.public_result.proofs.publishing.are_content.Given as goal

abbrev pub invariant-loop-student : goal.invariant-loop-student
invariant-loop-student l = (s : ℕ) → s < l.student → IsContent (order l.aim) l.posted (slice_index_or l.instance.shape.students s []) (slice_index_or l.posted.students.items s None)
