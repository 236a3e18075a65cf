use Rattle.office.proofs.closing.Common.{slice_get_read, supervisor_left, length, refl, ap, ◌∙◌, ◌-◌}
use Rattle.office.proofs.closing.RoundInstance.{handed_step}
use Rattle.office.proofs.closing.making.supervisors_left.Goals as goal

pub loop-position-preserved : goal.loop-position-preserved
loop-position-preserved c up_to projects placements are =
    let all = c.args.supervisors.now in
    let at = slice_get_read all (length all) c.loop-position.position c.index-supervisors-position.result refl c.loop-position-test.true c.index-supervisors-position.is in
    let left = c.saturating_sub-left.ensures ∙ ap (λ n. c.index-supervisors-position.result.quota - n) (c.with_supervisor.ensures ∙ are.with_supervisor c.loop-position.position c.index-supervisors-position.result at) in
    handed_step (supervisor_left up_to projects placements) all c.loop-position.position c.index-supervisors-position.result _ _ _ _ c.loop-position-test.true c.index-supervisors-position.is
    (λ i. (c.copy.ensures i, left i)) c.in_ok-push.ensures.items (c.loop-position.invariant up_to projects placements are)
