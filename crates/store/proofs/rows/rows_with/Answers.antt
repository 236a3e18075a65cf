use Rattle.store.proofs.Common.{has_at, Damaged, ◌≡◌, Err, rules}
use Rattle.store.proofs.rows.rows_with.Goals as goal

pub returns-in_err-row_with-clause-damaged : goal.returns-in_err-row_with-clause-damaged
returns-in_err-row_with-clause-damaged c h =
    let was : c.row_with.result ≡ Err Damaged = search rules in
    (c.columns-item.result, has_at _ _ _ c.loop-columns-test.true c.columns-item.is, c.row_with.ensures.damaged was)
