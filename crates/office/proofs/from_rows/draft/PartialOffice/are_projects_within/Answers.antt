use Rattle.office.proofs.from_rows.Common.{placed_in_project, drafted, list_all, ProjectEntry as Project, ap, arith, sym, ◌+◌, ◌∙◌}
use Rattle.std.specs.Prelude.{slice_index}
use Rattle.office.proofs.from_rows.EachWithin.{goes_on, known_at, project_within}
use Rattle.office.proofs.from_rows.draft.PartialOffice.are_projects_within.Goals as goal

pub loop-position-init : goal.loop-position-init
loop-position-init c = record {
  same = ap (list_all (project_within (drafted c.args.self.now))) (sym c.entries-projects.ensures.all);
  known = known_at (λ (e : Project). e.quota) (λ (e : Project). placed_in_project (drafted c.args.self.now) e.code) c.args.self.now.projects c.entries-projects.result.now c.entries-projects.ensures.all (slice_index c.args.counts.now.projects) c.requires.counted.in_project 0;
}

pub loop-position-preserved : goal.loop-position-preserved
loop-position-preserved c = record {
  same = c.loop-position.invariant.same
      ∙ goes_on (λ (e : Project). e.quota) (λ (e : Project). placed_in_project (drafted c.args.self.now) e.code) c.entries-projects.result.now (slice_index c.args.counts.now.projects) c.loop-position.position c.index-projects-position.result c.loop-position-test.true (omega arith) c.loop-position.invariant.known;
  known = known_at (λ (e : Project). e.quota) (λ (e : Project). placed_in_project (drafted c.args.self.now) e.code) c.args.self.now.projects c.entries-projects.result.now c.entries-projects.ensures.all (slice_index c.args.counts.now.projects) c.requires.counted.in_project (c.loop-position.position + 1);
}
