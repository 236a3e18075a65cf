use Rattle.store.proofs.Common.{inl, runs_runs, steps_runs, part_err}
use Rattle.store.proofs.transaction.migrate.Goals as goal

pub returns-clause-step : goal.returns-clause-step
returns-clause-step g c =
    steps_runs _ _ _ _ _ _ (rw c.edition_row.ensures at c.in_ok-enter.ensures.step) (runs_runs _ _ _ _ _ _ (rw c.beyond.ensures at c.in_ok-make_each.ensures.step) c.apply.ensures.step)

pub returns-in_err-enter-clause-step : goal.returns-in_err-enter-clause-step
returns-in_err-enter-clause-step g c = part_err _ _ _ _ _ _ _ _ c.from_residual.ensures.1 (λ limit db h. inl h) (rw c.edition_row.ensures at c.in_err-enter.ensures.step)

pub returns-in_err-make_each-clause-step : goal.returns-in_err-make_each-clause-step
returns-in_err-make_each-clause-step g c =
    steps_runs _ _ _ _ _ _ (rw c.edition_row.ensures at c.in_ok-enter.ensures.step) (part_err _ _ _ _ _ _ _ _ c.from_residual-in_err-make_each.ensures.1 (λ limit db h. inl h) (rw c.beyond.ensures at c.in_err-make_each.ensures.step))
