use Rattle.store.proofs.Common.{inl, runs_steps, part_err}
use Rattle.store.proofs.transaction.create.Goals as goal

pub returns-clause-step : goal.returns-clause-step
returns-clause-step g c = runs_steps _ _ _ _ _ _ c.in_ok-make_each.ensures.step (rw c.edition_row.ensures at c.enter.ensures.step)

pub returns-in_err-make_each-clause-step : goal.returns-in_err-make_each-clause-step
returns-in_err-make_each-clause-step g c = part_err _ _ _ _ _ _ _ _ c.from_residual.ensures.1 (λ limit db h. inl h) c.in_err-make_each.ensures.step
