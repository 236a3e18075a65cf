use Rattle.std.proofs.Common.{◌==◌}
use Rattle.reports.proofs.Lines.{next, appended_chosen}
use Rattle.reports.proofs.Common.{placement_line}
use Rattle.reports.proofs.placements_report.placements.Goals as goal

pub loop-placement-preserved : goal.loop-placement-preserved
loop-placement-preserved c =
    let left = next c.placements-placement-items.result.now c.loop-placement.placement-index c.placement-item.result c.loop-placement-test.true c.placement-item.is in
    appended_chosen placement_line (λ p. p.round == c.args.round) _ _ _ _ _ _ left c.in_ok-push_placement.ensures c.loop-placement.invariant
