use Rattle.store.proofs.Common.{◌≡◌, ◌∙◌, Ok, applying, known_so}
use Rattle.store.specs.Common.{Steps}
use Rattle.store.proofs.InTurn.{goes_on, stops}
use Rattle.store.proofs.transaction.apply.Goals as goal
use Rattle.store.proofs.transaction.apply.Goals.{in-Put+in_ok-enter-in-Put, in-Add+in_ok-enter-in-Add, in-Remove+in_ok-leave-in-Remove}

pub loop-change-preserved : goal.loop-change-preserved
loop-change-preserved g c =
    let made : (c.match-change.tx.conn.ghost_name ≡ c.loop-change.tx.conn.ghost_name) × Steps g.S.Store (applying c.change-item.result) (Ok tt) c.loop-change.tx.conn.now c.match-change.tx.conn.now =
    elim c.match-change.branch [
      | in-Put+in_ok-enter-in-Put w ↦
          rw (w.tx-is, w.in-Put.is) (w.in_ok-enter-in-Put.ensures.same_reference, known_so _ _ _ _ _ w.cells.ensures.row (rw (w.table.ensures, w.cells.ensures.cells) at w.in_ok-enter-in-Put.ensures.step))
      | in-Add+in_ok-enter-in-Add w ↦
          rw (w.tx-is, w.in-Add.is) (w.in_ok-enter-in-Add.ensures.same_reference, known_so _ _ _ _ _ w.cells-in-Add.ensures.row (rw (w.table-in-Add.ensures, w.cells-in-Add.ensures.cells) at w.in_ok-enter-in-Add.ensures.step))
      | in-Remove+in_ok-leave-in-Remove w ↦
          rw (w.tx-is, w.in-Remove.is) (w.in_ok-leave-in-Remove.ensures.same_reference, known_so _ _ _ _ _ w.cells-in-Remove.ensures.part (rw (w.group.ensures, w.cells-in-Remove.ensures.cells) at w.in_ok-leave-in-Remove.ensures.step))
    ] in
    (made.0 ∙ c.loop-change.invariant.0, goes_on applying _ _ _ c.loop-change-test.true _ c.change-item.is _ _ _ c.loop-change.invariant.1 made.1)

pub returns-in_err-enter-in-Put-clause-step : goal.returns-in_err-enter-in-Put-clause-step
returns-in_err-enter-in-Put-clause-step g c =
    stops applying _ _ _ c.loop-change-test.true _ c.change-item.is _ _ _ c.loop-change.invariant.1 _ _ c.from_residual.ensures.1
    (rw c.in-Put.is (known_so _ _ _ _ _ c.cells.ensures.row (rw (c.table.ensures, c.cells.ensures.cells) at c.in_err-enter-in-Put.ensures.step)))

pub returns-in_err-enter-in-Add-clause-step : goal.returns-in_err-enter-in-Add-clause-step
returns-in_err-enter-in-Add-clause-step g c =
    stops applying _ _ _ c.loop-change-test.true _ c.change-item.is _ _ _ c.loop-change.invariant.1 _ _ c.from_residual-in_err-enter-in-Add.ensures.1
    (rw c.in-Add.is (known_so _ _ _ _ _ c.cells-in-Add.ensures.row (rw (c.table-in-Add.ensures, c.cells-in-Add.ensures.cells) at c.in_err-enter-in-Add.ensures.step)))

pub returns-in_err-leave-in-Remove-clause-step : goal.returns-in_err-leave-in-Remove-clause-step
returns-in_err-leave-in-Remove-clause-step g c =
    stops applying _ _ _ c.loop-change-test.true _ c.change-item.is _ _ _ c.loop-change.invariant.1 _ _ c.from_residual-in_err-leave-in-Remove.ensures.1
    (rw c.in-Remove.is (known_so _ _ _ _ _ c.cells-in-Remove.ensures.part (rw (c.group.ensures, c.cells-in-Remove.ensures.cells) at c.in_err-leave-in-Remove.ensures.step)))
