use Rattle.office.proofs.closing.Common.{put, placement_key, sym, ap, ◌∙◌}
use Rattle.office.proofs.closing.ManyPuts.{put_all_more}
use Rattle.office.proofs.closing.keeping.placements_after.Goals as goal

pub loop-placement-preserved : goal.loop-placement-preserved
loop-placement-preserved c =
    c.in_ok-put.ensures.ok ∙ ap (put placement_key c.in-Some.placement) c.loop-placement.invariant ∙ sym (put_all_more placement_key c.loop-placement.yielded c.args.placements.now c.in-Some.placement)
