use Rattle.std.proofs.Common.{◌≡◌, ℕ, ◌<◌, ◌≤◌, slice_get}
use Rattle.network.proofs.Common.{count_of, owner_at}
use Rattle.network.proofs.seating.projects_of.Given as goal

abbrev pub invariant-loop-i : goal.invariant-loop-i
invariant-loop-i l = record {
  below : (n : ℕ) → n < l.i → count_of l.list.items n ≡ owner_at (slice_get l.projects n) l.supervisor;
  past : (n : ℕ) → l.i ≤ n → count_of l.list.items n ≡ 0;
}
