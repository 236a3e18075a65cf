use Rattle.store.proofs.Common.{IsElsewhere, ◌≡◌, ◌≢◌, length, arith}
use Rattle.store.proofs.ListedTables.{so_far, of_each, is_next, not_alone}
use Rattle.store.proofs.Among.{is_among, stands_among}
use Rattle.store.proofs.reading.is_alone.Goals as goal

pub loop-other-preserved : goal.loop-other-preserved
loop-other-preserved c =
    so_far (λ other. other ≢ c.args.table → IsElsewhere other c.args.tree c.args.schema.now) c.args.tables.now c.loop-other.other-index _ c.loop-other-test.true c.loop-other.invariant (c.shares.ensures.wrong c.if-shares.false)

pub returns-then-shares-clause-wrong : goal.returns-then-shares-clause-wrong
returns-then-shares-clause-wrong c h =
    let found = c.shares.ensures.right c.if-shares.true in
    not_alone c.args.tables.now _ c.args.table c.args.schema.now c.args.tree (is_among c.args.tables.now _ (is_next c.args.tables.now c.loop-other.other-index _ c.loop-other-test.true)) found.0 found.1

pub returns-clause-right : goal.returns-clause-right
returns-clause-right c h other among =
    let end : c.loop-other.other-index ≡ length c.args.tables.now = omega arith in
    of_each (λ other. other ≢ c.args.table → IsElsewhere other c.args.tree c.args.schema.now) c.args.tables.now c.loop-other.other-index end c.loop-other.invariant other (stands_among c.args.tables.now other among)
