use Rattle.std.proofs.Common.{ℕ, ◌+◌, ◌<◌, ◌≤◌}
use Rattle.public_result.proofs.Common.{order, at, worth, choice_at}
use Rattle.public_result.proofs.own.first_better.Given as goal

abbrev pub invariant-loop-before : goal.invariant-loop-before
invariant-loop-before l = (k : ℕ) → 1 ≤ k → k < l.before + 1 → ¬ order l.aim (at l.has) (worth l.posted k (choice_at l.list k))
