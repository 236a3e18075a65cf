use Rattle.store.proofs.Common.{◌≤◌, Ok, length, refl, ◌∙◌, subst, take_all, arith, each_of, making, Runs, part_none, stays_none}
use Rattle.store.proofs.InTurn.{goes_on, stops}
use Rattle.store.proofs.transaction.make_each.Goals as goal

pub loop-table-init : goal.loop-table-init
loop-table-init g c = (refl, part_none _ _ _ (stays_none _ _ refl))

pub loop-table-preserved : goal.loop-table-preserved
loop-table-preserved g c = (
  c.in_ok-make.ensures.same_reference ∙ c.loop-table.invariant.0,
  goes_on making _ _ _ c.loop-table-test.true _ refl _ _ _ c.loop-table.invariant.1 c.in_ok-make.ensures.step,
)

pub returns-clause-step : goal.returns-clause-step
returns-clause-step g c =
    let end : length c.args.tables.now ≤ c.loop-table.table-index = omega arith in
    subst (λ tables. Runs g.S.Store (each_of making tables) (Ok tt) c.args.tx.now.conn.now c.loop-table.tx.conn.now) (take_all c.loop-table.table-index c.args.tables.now end) c.loop-table.invariant.1

pub returns-in_err-make-clause-step : goal.returns-in_err-make-clause-step
returns-in_err-make-clause-step g c = stops making _ _ _ c.loop-table-test.true _ refl _ _ _ c.loop-table.invariant.1 _ _ c.from_residual.ensures.1 c.in_err-make.ensures.step
