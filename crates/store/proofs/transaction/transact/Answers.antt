use Rattle.store.proofs.Common.{◌≡◌, Err, sym, ap, ◌∙◌, rules, Seen, state, stopped_as, task_of}
use Rattle.sql_tables.specs.declared.fault.TableFault.TheVariants.{Storage}
use Rattle.store.proofs.Readings.{of_storage}
use Rattle.store.proofs.Commit.{left_after, dropped_by, stopped_after_all}
use Rattle.store.proofs.transaction.transact.Goals as goal

pub returns-in_err-need_open-clause-cause : goal.returns-in_err-need_open-clause-cause
returns-in_err-need_open-clause-cause g c settled clean h =
    let gives = rw h at c.from_residual.ensures.1 in
    stopped_as _ _ _ _ (λ it. absurd it) (c.need_open.ensures.reads.cause clean (c.in_err-need_open.was ∙ ap Err (of_storage _ (sym gives))))

-- How the transaction ended is searched for, so that a body that ends it otherwise is refused at it.
pub returns-in_err-perform-clause-safe : goal.returns-in_err-perform-clause-safe
returns-in_err-perform-clause-safe g c = record {
  kept = search rules;
  ended = search rules;
  begun = search rules;
  crash =
      let task = task_of c.args.task c.args.changes.now in
      left_after _ _ _ task.does c.need_open.ensures.reads.survives c.in_ok-need_open.ensures.same
      (dropped_by (state g.S.Store c.need_open.new.conn) (state g.S.Store c.transaction-tx.result.conn.now) (ap (state g.S.Store) c.transaction-tx.ensures.begun) (state g.S.Store c.perform.new.tx.conn.now) _ task.does c.perform.ensures.step.survives (search rules));
}

pub returns-in_err-perform-clause-cause : goal.returns-in_err-perform-clause-cause
returns-in_err-perform-clause-cause g c settled clean h =
    let begins = ap (state g.S.Store) c.transaction-tx.ensures.begun in
    let was : c.perform.result ≡ Err Storage = search rules in
    let task = task_of c.args.task c.args.changes.now in
    stopped_after_all task.hinders task.hinders (state g.S.Store c.args.conn.now) (state g.S.Store c.need_open.new.conn) (state g.S.Store c.transaction-tx.result.conn.now) (state g.S.Store c.perform.new.tx.conn.now) _
    c.in_ok-need_open.ensures.same c.need_open.ensures.reads.survives begins c.perform.ensures.step.survives (λ limit db it. it) (λ early. c.perform.ensures.step.cause (ap (λ (s : Seen). s.in_transaction) begins) early was) (search rules) clean

pub returns-clause-safe : goal.returns-clause-safe
returns-clause-safe g c = record { kept = search rules; ended = search rules; begun = search rules; crash = search rules }

pub returns-in_err-commit-clause-safe : goal.returns-in_err-commit-clause-safe
returns-in_err-commit-clause-safe g c = record { kept = search rules; ended = search rules; begun = search rules; crash = search rules }

pub returns-in_err-need_open-clause-safe : goal.returns-in_err-need_open-clause-safe
returns-in_err-need_open-clause-safe g c = record { kept = search rules; ended = search rules; begun = search rules; crash = search rules }
