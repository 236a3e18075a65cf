use Rattle.std.proofs.Common.{◌≡◌, ℕ, ◌<◌, pos}
use Rattle.public_result.proofs.Common.{at}
use Rattle.public_result.proofs.prices.is_nothing.Given as goal

abbrev pub invariant-loop-t : goal.invariant-loop-t
invariant-loop-t l = (k : ℕ) → k < l.t → at l.price k ≡ pos 0
