use Rattle.office.proofs.Common.{RANKS, ◌≡◌, ℕ, ◌<◌, slice_index, ◌+◌, ◌==◌, ◌&&◌, length, count_by}
use Rattle.office.proofs.office.placed.ranked.Given as goal

abbrev pub invariant-loop-k : goal.invariant-loop-k
invariant-loop-k l = record {
  whole : length l.counts ≡ RANKS;
  so_far : (j : ℕ) → j < l.k → slice_index l.counts j ≡ count_by (λ p. (p.round == l.round) && (p.rank == j + 1)) l.placements;
}
