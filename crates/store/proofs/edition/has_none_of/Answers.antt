use Rattle.store.proofs.Common.{is_there, shape_of, ◌≡◌, true, sym, ◌∙◌, false}
use Rattle.store.proofs.ListedTables.{is_next, so_far}
use Rattle.store.proofs.edition.has_none_of.Goals as goal

-- the name is found as there, and as not there
not_both : (b : _) → b ≡ true → b ≡ false → ⊥
not_both true is isnt = absurd (let e : true ≡ false = isnt in cc)
not_both false is isnt = absurd (let e : false ≡ true = is in cc)

pub returns-then-has_table-clause-wrong : goal.returns-then-has_table-clause-wrong
returns-then-has_table-clause-wrong c h none =
    not_both c.has_table.result c.if-has_table.true (c.has_table.ensures ∙ none _ (is_next c.args.tables.now c.loop-table.table-index _ c.loop-table-test.true))

pub loop-table-preserved : goal.loop-table-preserved
loop-table-preserved c =
    so_far (λ table. is_there c.args.schema.now (shape_of table).name ≡ false) c.args.tables.now c.loop-table.table-index _ c.loop-table-test.true c.loop-table.invariant (sym c.has_table.ensures ∙ c.if-has_table.false)
