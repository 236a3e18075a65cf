use Rattle.std.proofs.Common.{◌≡◌, ℕ, length}
use Rattle.network.proofs.Common.{slice_index_or}
use Rattle.network.proofs.numbers.copies.Given as goal

abbrev pub invariant-loop-i : goal.invariant-loop-i
invariant-loop-i g l = record {
  len : length l.v.items ≡ l._i;
  each : (i : ℕ) → slice_index_or l.v.items i l.value ≡ l.value;
}
