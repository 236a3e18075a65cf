use Rattle.std.proofs.Common.{◌≡◌, ◌++◌, ℕ, Some, slice_get, drop, flat_map, filter, string_bytes}
use Rattle.reports.proofs.Common.{bytes_eq, AreLoads, own_rows, project_row}
use Rattle.reports.proofs.places_report.push_offered.Given as goal

abbrev pub invariant-loop-position : goal.invariant-loop-position
invariant-loop-position l = (n : ℕ) → slice_get (let o = l.office in o.supervisors) l.at ≡ Some l.supervisor → AreLoads l.office n l.counts
    → string_bytes l.out ++ flat_map (project_row l.told l.office n l.supervisor) (filter (λ p. let s = l.supervisor in bytes_eq s.code p.supervisor) (drop l.position l.projects)) ≡ string_bytes l.fn.out ++ own_rows l.told l.office n l.supervisor
