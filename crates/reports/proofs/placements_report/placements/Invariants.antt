use Rattle.std.proofs.Common.{◌≡◌, ◌++◌, ◌==◌, drop, flat_map, filter, string_bytes}
use Rattle.reports.proofs.Common.{placement_line}
use Rattle.reports.proofs.placements_report.placements.Given as goal

abbrev pub invariant-loop-placement : goal.invariant-loop-placement
invariant-loop-placement l =
    string_bytes l.out ++ flat_map placement_line (filter (λ p. p.round == l.round) (drop l.placement-index l.placement-items)) ≡ flat_map placement_line (filter (λ p. p.round == l.round) l.placement-items)
