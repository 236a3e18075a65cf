use Rattle.office.proofs.from_rows.Common.{placed_with_supervisor, drafted, list_all, SupervisorEntry as Supervisor, ap, arith, sym, ◌+◌, ◌∙◌}
use Rattle.std.specs.Prelude.{slice_index}
use Rattle.office.proofs.from_rows.EachWithin.{goes_on, known_at, supervisor_within}
use Rattle.office.proofs.from_rows.draft.PartialOffice.are_supervisors_within.Goals as goal

pub loop-position-init : goal.loop-position-init
loop-position-init c = record {
  same = ap (list_all (supervisor_within (drafted c.args.self.now))) (sym c.entries-supervisors.ensures.all);
  known = known_at (λ (e : Supervisor). e.quota) (λ (e : Supervisor). placed_with_supervisor (drafted c.args.self.now) e.code) c.args.self.now.supervisors c.entries-supervisors.result.now c.entries-supervisors.ensures.all (slice_index c.args.counts.now.supervisors) c.requires.counted.with_supervisor 0;
}

pub loop-position-preserved : goal.loop-position-preserved
loop-position-preserved c = record {
  same = c.loop-position.invariant.same
      ∙ goes_on (λ (e : Supervisor). e.quota) (λ (e : Supervisor). placed_with_supervisor (drafted c.args.self.now) e.code) c.entries-supervisors.result.now (slice_index c.args.counts.now.supervisors) c.loop-position.position c.index-supervisors-position.result c.loop-position-test.true (omega arith) c.loop-position.invariant.known;
  known = known_at (λ (e : Supervisor). e.quota) (λ (e : Supervisor). placed_with_supervisor (drafted c.args.self.now) e.code) c.args.self.now.supervisors c.entries-supervisors.result.now c.entries-supervisors.ensures.all (slice_index c.args.counts.now.supervisors) c.requires.counted.with_supervisor (c.loop-position.position + 1);
}
