use Rattle.office.proofs.from_rows.Common.{RANKS, drafted, ◌≡◌, suc, ◌+◌, ◌-◌, ◌∙◌, arith}
use Rattle.office.proofs.from_rows.Faults.{handed_on}
use Rattle.office.proofs.from_rows.Gathered.{gathered_on, gathered_off}
use Rattle.office.proofs.from_rows.gathering.take_all.Goals as goal

pub returns-in_err-take_stage-clause-unfit : goal.returns-in_err-take_stage-clause-unfit
returns-in_err-take_stage-clause-unfit c =
    let stage = c.loop-stage.stage in
    let left : suc (RANKS - stage) + stage ≡ RANKS + 1 = omega (arith, c.loop-stage-test.true) in
    λ is. c.loop-stage.invariant (suc (RANKS - stage)) left
    ∙ gathered_off (drafted c.loop-stage.found) (RANKS - stage) stage c.args.rows.now (c.take_stage.ensures.unfit (c.in_err-take_stage.was ∙ handed_on c.from_residual.result _ c.from_residual.ensures.1 is))

pub loop-stage-preserved : goal.loop-stage-preserved
loop-stage-preserved c =
    λ n left. c.loop-stage.invariant (suc n) (omega (arith, left)) ∙ gathered_on (drafted c.loop-stage.found) _ n c.loop-stage.stage c.args.rows.now c.in_ok-take_stage.ensures.taken

pub returns-clause-found : goal.returns-clause-found
returns-clause-found c = c.loop-stage.invariant 0 (omega (arith, c.loop-stage-test.false, c.loop-stage.auto.stage-end))
