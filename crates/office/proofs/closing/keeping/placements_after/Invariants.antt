use Rattle.office.proofs.closing.Common.{put_all, placement_key, ◌≡◌}
use Rattle.office.proofs.closing.keeping.placements_after.Given as goal

abbrev pub invariant-loop-placement : goal.invariant-loop-placement
invariant-loop-placement l = l.after ≡ put_all placement_key l.yielded l.placements
