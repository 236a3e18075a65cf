use Rattle.office.proofs.from_rows.Common.{list_all, drafted, placed_with_supervisor, SupervisorEntry as Supervisor, ◌≡◌, drop}
use Rattle.std.specs.Prelude.{slice_index}
use Rattle.office.proofs.from_rows.EachWithin.{IsKnownAt, supervisor_within}
use Rattle.office.proofs.from_rows.draft.PartialOffice.are_supervisors_within.Given as goal

abbrev pub invariant-loop-position : goal.invariant-loop-position
invariant-loop-position l = record {
  same : list_all (supervisor_within (drafted l.self)) l.self.supervisors ≡ list_all (supervisor_within (drafted l.self)) (drop l.position l.supervisors);
  known : IsKnownAt (λ (e : Supervisor). e.quota) (λ (e : Supervisor). placed_with_supervisor (drafted l.self) e.code) l.supervisors (slice_index l.counts.supervisors) l.position;
}
