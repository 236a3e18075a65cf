use Rattle.std.proofs.Common.{◌≡◌, ℕ, ◌<◌, length, slice_get}
use Rattle.network.proofs.Common.{count_of, owner_at, numbers_at}
use Rattle.network.proofs.seating.all_offered.Given as goal

abbrev pub invariant-loop-i : goal.invariant-loop-i
invariant-loop-i l = record {
  len : length l.lists.items ≡ l.i;
  each : (m p : ℕ) → m < l.i → count_of (numbers_at l.lists.items m) p ≡ owner_at (slice_get l.projects p) m;
}
