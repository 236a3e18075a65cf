use Rattle.office.proofs.from_rows.Common.{list_all, drafted, placed_in_project, ProjectEntry as Project, ◌≡◌, drop}
use Rattle.std.specs.Prelude.{slice_index}
use Rattle.office.proofs.from_rows.EachWithin.{IsKnownAt, project_within}
use Rattle.office.proofs.from_rows.draft.PartialOffice.are_projects_within.Given as goal

abbrev pub invariant-loop-position : goal.invariant-loop-position
invariant-loop-position l = record {
  same : list_all (project_within (drafted l.self)) l.self.projects ≡ list_all (project_within (drafted l.self)) (drop l.position l.projects);
  known : IsKnownAt (λ (e : Project). e.quota) (λ (e : Project). placed_in_project (drafted l.self) e.code) l.projects (slice_index l.counts.projects) l.position;
}
