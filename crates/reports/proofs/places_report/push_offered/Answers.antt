use Rattle.std.proofs.Common.{List, length, slice_get, refl, sym, ap, ◌∙◌}
use Rattle.reports.proofs.Common.{bytes_eq, slice_get_read, Project, project_row}
use Rattle.reports.proofs.Lines.{next, appended_chosen}
use Rattle.reports.proofs.places_report.push_offered.Goals as goal

pub loop-position-preserved : goal.loop-position-preserved
loop-position-preserved c n by are =
    let all = c.projects-projects.result.now in
    let k = c.loop-position.position in
    let left = next all k c.index-projects-position.result c.loop-position-test.true c.index-projects-position.is in
    let at = ap (λ (ps : List Project). slice_get ps k) (sym c.projects-projects.ensures.all) ∙ slice_get_read all (length all) k c.index-projects-position.result refl c.loop-position-test.true c.index-projects-position.is in
    appended_chosen (project_row c.args.told c.args.office.now n c.args.supervisor.now) (λ p. let s = c.args.supervisor.now in bytes_eq s.code p.supervisor) _ _ _ _ _ _ left (c.in_ok-push_project.ensures c.args.office.now n by at are) (c.loop-position.invariant n by are)
