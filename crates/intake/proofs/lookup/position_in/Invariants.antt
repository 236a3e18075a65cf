use Rattle.std.proofs.Common.{◌≡◌, ℕ, ◌<◌, Some, slice_get}
use Rattle.intake.proofs.lookup.position_in.Given as goal

abbrev pub invariant-loop-position : goal.invariant-loop-position
invariant-loop-position l = (p : ℕ) → p < l.position → slice_get l.list p ≡ Some l.code → ⊥
