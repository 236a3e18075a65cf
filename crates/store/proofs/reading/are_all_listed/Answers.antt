use Rattle.store.proofs.Common.{IsListedAlone, ◌≡◌, length, refl, arith}
use Rattle.store.proofs.ListedTables.{no_edition, so_far, of_each, is_next, listed_right, listed_each}
use Rattle.store.proofs.Among.{is_among, stands_among}
use Rattle.store.proofs.reading.are_all_listed.Goals as goal

pub returns-in_default-clause-wrong : goal.returns-in_default-clause-wrong
returns-in_default-clause-wrong c h = no_edition c.args.tables.now _ (c.in_default.ensures.none refl)

pub loop-table-preserved : goal.loop-table-preserved
loop-table-preserved c = so_far (IsListedAlone c.args.tables.now c.in-Some.edition c.args.schema.now) c.args.tables.now c.loop-table.table-index _ c.loop-table-test.true c.loop-table.invariant (c.is_listed.ensures.right c.if-not-is_listed.false)

pub returns-then-not-is_listed-clause-wrong : goal.returns-then-not-is_listed-clause-wrong
returns-then-not-is_listed-clause-wrong c h listed =
    c.is_listed.ensures.wrong c.if-not-is_listed.true (listed_each c.args.tables.now c.args.schema.now c.in-Some.edition c.in-Some.ensures.some listed _ (is_among c.args.tables.now _ (is_next c.args.tables.now c.loop-table.table-index _ c.loop-table-test.true)))

pub returns-clause-right : goal.returns-clause-right
returns-clause-right c h =
    let end : c.loop-table.table-index ≡ length c.args.tables.now = omega arith in
    listed_right c.args.tables.now c.args.schema.now c.in-Some.edition c.in-Some.ensures.some (λ table among. of_each (IsListedAlone c.args.tables.now c.in-Some.edition c.args.schema.now) c.args.tables.now c.loop-table.table-index end c.loop-table.invariant table (stands_among c.args.tables.now table among))
