use Rattle.store.proofs.Common.{HasCleanDisk, state, Damaged, HoldsUnread, ReadsAll, ReadsSome, Storage, ◌≡◌, ◌≢◌, ◌+◌, length, Err, sym, ap, subst, ◌∙◌, arith, rules}
use Rattle.store.proofs.ReadRows.{reads_more, reads_all, unread_then}
use Rattle.store.proofs.Among.{are_once, once, some_tables}
use Rattle.store.proofs.Readings.{table_unread, reads_as, reads_ok, reads_then}
use Rattle.store.proofs.reading.read_rows.Goals as goal

pub loop-table-preserved : goal.loop-table-preserved
loop-table-preserved g c =
    let old = state g.S.Store c.args.conn.now in
    let mid = state g.S.Store c.loop-table.conn in
    let new = state g.S.Store c.read_table.new.conn in
    let it = c.in_ok-more.ensures in
    let l = c.loop-table.invariant in
    record {
      reading = reads_then Storage Storage _ (λ _ _. ⊥) _ _ _ old mid new l.reading (reads_ok _ _ _ _ _ tt mid new it.reads) (λ clean up h. absurd h);
      reads = λ clean.
          let early : HasCleanDisk mid = omega (arith, it.reads.survives.clean) in
          subst (λ rows. ReadsSome c.rolls_of-tables.result.now (c.loop-table.table-index + 1) rows old new) (sym c.in_ok-append.ensures.items)
          (reads_more c.rolls_of-tables.result.now (ap are_once c.rolls_of-tables.ensures ∙ once c.args.edition) c.loop-table.table-index _ _ _ old mid new c.loop-table-test.true (l.reads early) (it.rows clean));
    }

pub returns-in_err-more-clause-damaged : goal.returns-in_err-more-clause-damaged
returns-in_err-more-clause-damaged g c clean h =
    let was : c.read_table.result ≡ Err Damaged = search rules in
    let early : HasCleanDisk (state g.S.Store c.loop-table.conn) = omega (arith, c.read_table.ensures.reads.survives.clean) in
    subst (λ tables. HoldsUnread tables (state g.S.Store c.args.conn.now)) c.rolls_of-tables.ensures (unread_then c.rolls_of-tables.result.now c.loop-table.table-index _ _ _ _ c.loop-table-test.true (c.loop-table.invariant.reads early) (c.read_table.ensures.damaged clean was))

pub returns-in_err-more-clause-reads : goal.returns-in_err-more-clause-reads
returns-in_err-more-clause-reads g c =
    let old = state g.S.Store c.args.conn.now in
    let mid = state g.S.Store c.loop-table.conn in
    reads_then Storage Storage _ _ _ _ _ old mid _ c.loop-table.invariant.reading
    (reads_as Storage Storage _ _ _ mid _ (λ h. let was : c.read_table.result ≡ Err Storage = search rules in was) c.read_table.ensures.reads)
    (λ clean up h. table_unread c.args.edition c.rolls_of-tables.result.now c.rolls_of-tables.ensures c.loop-table.table-index _ _ old.now mid.now c.loop-table-test.true ((c.loop-table.invariant.reads clean).same up).0.now_is h)

pub returns-clause-rows : goal.returns-clause-rows
returns-clause-rows g c clean =
    let end : c.loop-table.table-index ≡ length c.rolls_of-tables.result.now = omega arith in
    let some : length c.rolls_of-tables.result.now ≢ 0 = λ none. some_tables c.args.edition (ap length (sym c.rolls_of-tables.ensures) ∙ none) in
    subst (λ tables. ReadsAll tables c.loop-table.rows.items (state g.S.Store c.args.conn.now) (state g.S.Store c.loop-table.conn)) c.rolls_of-tables.ensures (reads_all c.rolls_of-tables.result.now some c.loop-table.table-index _ _ _ end (c.loop-table.invariant.reads clean))
