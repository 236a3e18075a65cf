use Rattle.store.proofs.Common.{get_or_default, ReadsCells, Damaged, ◌≡◌, ◌+◌, ◌∙◌, Err, length, get_or, sym, subst, rules}
use Rattle.schema.specs.declared.cell.Kind.TheVariants.{Text}
use Rattle.store.proofs.ReadRows.{cells_more, no_row}
use Rattle.store.proofs.rows.row_with.Goals as goal

pub returns-in_err-cell_at-clause-damaged : goal.returns-in_err-cell_at-clause-damaged
returns-in_err-cell_at-clause-damaged c h =
    let was : c.cell_at.result ≡ Err Damaged = search rules in
    let kinds = c.kinds-kinds.result.now in
    no_row c.args.table kinds c.kinds-kinds.ensures c.args.columns.now c.loop-at.at _ c.loop-at-test.true (get_or_default kinds c.loop-at.at Text (get_or kinds c.loop-at.at Text) c.loop-at-test.true) (c.cell_at.ensures.damaged was)

pub loop-at-preserved : goal.loop-at-preserved
loop-at-preserved c =
    let kinds = c.kinds-kinds.result.now in
    let long : length c.args.columns.now ≡ length kinds + 1 = sym c.column_count.ensures ∙ c.if-column_count-kinds.false in
    subst (λ cells. ReadsCells kinds c.args.columns.now (c.loop-at.at + 1) cells) (sym c.in_ok-push.ensures.items)
    (cells_more kinds c.args.columns.now c.loop-at.at _ _ _ long c.loop-at-test.true (get_or_default kinds c.loop-at.at Text (get_or kinds c.loop-at.at Text) c.loop-at-test.true) c.in_ok-cell_at.ensures.cell.0 c.in_ok-cell_at.ensures.cell.1 c.loop-at.invariant)
