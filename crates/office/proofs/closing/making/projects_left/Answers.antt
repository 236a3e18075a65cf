use Rattle.office.proofs.closing.Common.{slice_get_read, project_left, length, refl, ap, ◌∙◌, ◌-◌}
use Rattle.office.proofs.closing.RoundInstance.{handed_step}
use Rattle.office.proofs.closing.making.projects_left.Goals as goal

pub loop-position-preserved : goal.loop-position-preserved
loop-position-preserved c up_to supervisors placements are =
    let all = c.args.projects.now in
    let at = slice_get_read all (length all) c.loop-position.position c.index-projects-position.result refl c.loop-position-test.true c.index-projects-position.is in
    let left = c.saturating_sub-left.ensures ∙ ap (λ n. c.index-projects-position.result.quota - n) (c.in_project.ensures ∙ are.in_project c.loop-position.position c.index-projects-position.result at) in
    handed_step (project_left up_to placements) all c.loop-position.position c.index-projects-position.result _ _ _ _ c.loop-position-test.true c.index-projects-position.is
    (λ i. (c.copy.ensures i, c.copy-in-loop-position.ensures i, left i)) c.in_ok-push.ensures.items (c.loop-position.invariant up_to supervisors placements are)
