use Rattle.std.proofs.Common.{◌≡◌, ℕ, List, length, Some, slice_get, refl, sym, ap, subst, ◌∙◌, arith}
use Rattle.reports.proofs.Common.{slice_get_read, Supervisor, Project, Placement, State, AreLoads, rows_of}
use Rattle.spa.specs.Counted.{Counted}
use Rattle.office_model.specs.Counted.{AreCounted}
use Rattle.office.proofs.Few.{placements_few}
use Rattle.reports.proofs.Lines.{next, appended}
use Rattle.reports.proofs.places_report.by_supervisor.Goals as goal

pub counted-counts-requires-clause-few : goal.counted-counts-requires-clause-few
counted-counts-requires-clause-few c =
    let few = placements_few c.args.office.now c.placements.ensures.fit in
    let same = ap (λ (ps : List Placement). length ps) c.placements.ensures.all in
    omega (arith, few, same)

-- the counts are those of the office
counts_of : (o : State) (n : ℕ) (supervisors : List Supervisor) (projects : List Project) (placements : List Placement) (counts : Counted)
    → supervisors ≡ o.supervisors → projects ≡ o.projects → placements ≡ o.placements → AreCounted (Some n) supervisors projects placements counts → AreLoads o n counts
counts_of o n supervisors projects placements counts s p q are =
    subst (λ (ss : List Supervisor). AreCounted (Some n) ss o.projects o.placements counts) s
    (subst (λ (ps : List Project). AreCounted (Some n) supervisors ps o.placements counts) p
    (subst (λ (qs : List Placement). AreCounted (Some n) supervisors projects qs counts) q are))

pub loop-at-preserved : goal.loop-at-preserved
loop-at-preserved c =
    let all = c.supervisors-supervisors.result.now in
    let k = c.loop-at.at in
    let left = next all k c.index-supervisors-at.result c.loop-at-test.true c.index-supervisors-at.is in
    let at = ap (λ (ss : List Supervisor). slice_get ss k) (sym c.supervisors-supervisors.ensures.all) ∙ slice_get_read all (length all) k c.index-supervisors-at.result refl c.loop-at-test.true c.index-supervisors-at.is in
    let are = counts_of c.args.office.now c.args.round all c.projects.result.now c.placements.result.now c.counted-counts.result c.supervisors-supervisors.ensures.all c.projects.ensures.all c.placements.ensures.all c.counted-counts.ensures in
    appended (rows_of c.args.told c.args.office.now c.args.round) _ _ _ _ _ _ left (c.in_ok-push_supervisor.ensures c.args.round at are) c.loop-at.invariant
