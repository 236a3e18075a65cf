use Rattle.std.proofs.Common.{◌≡◌, ℕ, ◌<◌, length, pos, ◌-ℤ◌}
use Rattle.public_result.proofs.Common.{plus, at, weight, COMPONENTS}
use Rattle.public_result.proofs.prices.left_of.Given as goal

abbrev pub invariant-loop-t : goal.invariant-loop-t
invariant-loop-t l = record {
  whole : length l.left ≡ COMPONENTS;
  filled : (k : ℕ) → k < l.t → at l.left k ≡ pos (weight l.rank k) -ℤ plus (at l.project) (at l.supervisor) k;
}
