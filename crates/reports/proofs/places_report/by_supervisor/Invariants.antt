use Rattle.std.proofs.Common.{◌≡◌, ◌++◌, drop, flat_map, string_bytes}
use Rattle.reports.proofs.Common.{rows_of}
use Rattle.reports.proofs.places_report.by_supervisor.Given as goal

abbrev pub invariant-loop-at : goal.invariant-loop-at
invariant-loop-at l = string_bytes l.out ++ flat_map (rows_of l.told l.office l.round) (drop l.at l.supervisors) ≡ flat_map (rows_of l.told l.office l.round) (let o = l.office in o.supervisors)
