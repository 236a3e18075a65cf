use Rattle.std.proofs.Common.{◌≡◌, ◌+◌, ◌-◌, ◌++◌, flat_map, string_bytes}
use Rattle.reports.proofs.Common.{range_with_len, RANKS, rank_row}
use Rattle.reports.proofs.profile_report.push_ranks.Given as goal

abbrev pub invariant-loop-k : goal.invariant-loop-k
invariant-loop-k l = string_bytes l.out ++ flat_map (rank_row l.office l.round) (range_with_len (l.k + 1) (RANKS - l.k)) ≡ string_bytes l.fn.out ++ flat_map (rank_row l.office l.round) (range_with_len 1 RANKS)
