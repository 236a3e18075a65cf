use Rattle.std.proofs.Common.{◌≡◌, ℕ, ◌<◌, ◌≤◌, length, Some, slice_get}
use Rattle.network.proofs.Common.{count_of, numbers_at, room_at}
use Rattle.network.proofs.seating.empty_seats.Given as goal

abbrev pub invariant-loop-i : goal.invariant-loop-i
invariant-loop-i l = record {
  len : length l.lists.items ≡ l.i;
  none : (p s : ℕ) → count_of (numbers_at l.lists.items p) s ≡ 0;
  room : (p m q : ℕ) → p < l.i → slice_get l.projects p ≡ Some (m, q) → q ≤ room_at l.lists.items p;
}
