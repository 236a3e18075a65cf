use Rattle.std.proofs.Common.{◌≢◌, ℕ, ◌<◌, slice_index}
use Rattle.public_result.proofs.own.are_distinct.Given as goal

abbrev pub invariant-loop-position : goal.invariant-loop-position
invariant-loop-position l = (k j : ℕ) → k < l.position → j < k → slice_index l.list j ≢ slice_index l.list k
