use Rattle.store.proofs.Common.{Values, HasCleanDisk, state, IsHinderedReading, Edition, Damaged, Storage, number_of, rolls_of, numbered, AreAllListed, ◌≡◌, ◌≢◌, inl, refl, sym, ap, ◌∙◌, Err, List, map, drop, subst, arith, rules}
use Rattle.store.proofs.ReadRows.{none_back, holds_back, unchanged_then, are_in, other_number, stood, unlisted, unread}
use Rattle.store.proofs.Readings.{of_storage, rows_unread, reads_as, reads_nothing, reads_then}
use Rattle.store.proofs.Among.{none_later}
use Rattle.store.proofs.reading.rows_in.Goals as goal

pub returns-in_err-need_number-clause-damaged : goal.returns-in_err-need_number-clause-damaged
returns-in_err-need_number-clause-damaged g c clean h =
    let shows = c.in_ok-number.ensures.rows clean in
    let other = subst (λ (all : List Values). map (drop 1) all ≢ numbered (number_of c.args.edition)) c.as_slice.ensures.value c.in_err-need_number.ensures.err.1 in
    other_number (state g.S.Store c.args.conn.now) c.schema.ensures.live shows.same.0.was_open c.args.edition _ _ shows other

pub returns-in_err-rows-clause-damaged : goal.returns-in_err-rows-clause-damaged
returns-in_err-rows-clause-damaged g c clean h =
    let was : c.read_rows.result ≡ Err Damaged = search rules in
    let found = c.read_rows.ensures.damaged clean was in
    let early : HasCleanDisk (state g.S.Store c.read.new.conn) = omega (arith, c.read_rows.ensures.reads.survives.clean) in
    let shows = c.in_ok-number.ensures.rows early in
    unread (state g.S.Store c.args.conn.now) c.schema.ensures.live shows.same.0.was_open c.args.edition found.1 found.2 (none_back found.1 _ _ shows.same.0.now_is found.3)

pub returns-clause-rows : goal.returns-clause-rows
returns-clause-rows g c clean =
    let old = state g.S.Store c.args.conn.now in
    let early : HasCleanDisk (state g.S.Store c.read.new.conn) = omega (arith, c.read_rows.ensures.reads.survives.clean) in
    let shows = c.in_ok-number.ensures.rows early in
    let all = c.in_ok-rows.ensures.rows clean in
    let listed = subst (AreAllListed (rolls_of c.args.edition)) c.schema.ensures.value (subst (λ tables. AreAllListed tables c.schema.result.now) c.rolls_of.ensures (c.are_all_listed.ensures.right c.if-not-are_all_listed.false)) in
    let number = subst (λ (rows : List Values). map (drop 1) rows ≡ numbered (number_of c.args.edition)) c.as_slice.ensures.value c.in_ok-need_number.ensures.ok in
    let rows = c.in_ok-rows.rows.items in
    record {
      same = unchanged_then _ _ _ shows.same all.same;
      none_later = none_later c.args.edition rows all.others;
      holds = stood old c.schema.ensures.live shows.same.0.was_open c.args.edition rows (λ table among. holds_back table _ _ _ shows.same.0.now_is (all.holds table among)) all.others listed _ _ shows number;
      are = are_in old c.schema.ensures.live shows.same.0.was_open c.args.edition rows (λ table among. holds_back table _ _ _ shows.same.0.now_is (all.holds table among)) all.others;
    }

pub returns-in_err-number-clause-reads : goal.returns-in_err-number-clause-reads
returns-in_err-number-clause-reads g c =
    let listed = subst (AreAllListed (rolls_of c.args.edition)) c.schema.ensures.value (subst (λ tables. AreAllListed tables c.schema.result.now) c.rolls_of.ensures (c.are_all_listed.ensures.right c.if-not-are_all_listed.false)) in
    let old = state g.S.Store c.args.conn.now in
    reads_then Storage Storage IsHinderedReading _ _ _ _ old old _ (reads_nothing Storage IsHinderedReading old)
    (reads_as _ _ _ _ _ _ _ (λ h. c.in_err-number.was ∙ ap Err (of_storage _ (sym (rw h at c.from_residual.ensures.1)))) c.read.ensures.reads)
    (λ clean up h. record { edition = c.args.edition; listed = listed; table = Edition; among = inl refl; hindered = h })

pub returns-in_err-rows-clause-reads : goal.returns-in_err-rows-clause-reads
returns-in_err-rows-clause-reads g c =
    let old = state g.S.Store c.args.conn.now in
    let mid = state g.S.Store c.read.new.conn in
    let listed = subst (AreAllListed (rolls_of c.args.edition)) c.schema.ensures.value (subst (λ tables. AreAllListed tables c.schema.result.now) c.rolls_of.ensures (c.are_all_listed.ensures.right c.if-not-are_all_listed.false)) in
    reads_then _ _ _ _ _ _ _ old mid _ c.in_ok-number.ensures.reads (reads_as _ _ _ _ _ mid _ (λ h. let was : c.read_rows.result ≡ Err Storage = search rules in was) c.read_rows.ensures.reads)
    (λ clean up h. rows_unread c.args.edition _ old.now mid.now listed (c.in_ok-number.ensures.rows clean).same.0.now_is h)

pub returns-then-not-are_all_listed-clause-damaged : goal.returns-then-not-are_all_listed-clause-damaged
returns-then-not-are_all_listed-clause-damaged g c clean h =
    unlisted c.args.edition (state g.S.Store c.args.conn.now).now (λ l. c.are_all_listed.ensures.wrong c.if-not-are_all_listed.true
    (subst (λ tables. AreAllListed tables c.schema.result.now) (sym c.rolls_of.ensures) (subst (AreAllListed (rolls_of c.args.edition)) (sym c.schema.ensures.value) l)))
