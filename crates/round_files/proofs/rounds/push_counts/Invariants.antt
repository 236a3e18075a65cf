use Rattle.std.proofs.Common.{◌≡◌, ◌∷◌, ◌++◌, drop, flat_map, string_bytes, decimal}
use Rattle.round_files.proofs.rounds.push_counts.Given as goal

abbrev pub invariant-loop-count : goal.invariant-loop-count
invariant-loop-count l = string_bytes l.out ++ flat_map (λ n. 32 ∷ decimal n) (drop l.count-index l.counts) ≡ string_bytes l.fn.out ++ flat_map (λ n. 32 ∷ decimal n) l.counts
