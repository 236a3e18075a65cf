use Rattle.store.proofs.Common.{state, Change, RowOf, AreRowsOf, migrating_changes, FindsOffice, Damaged, ◌≡◌, Err, List, subst, sym, rules}
use Rattle.store.proofs.FoundOffice.{found_in}
use Rattle.store.proofs.MigratingRows.{rows_migrate}
use Rattle.store.proofs.reading.office_in.Goals as goal

pub returns-clause-ok : goal.returns-clause-ok
returns-clause-ok g c clean =
    let e = c.args.edition in
    let rows = c.in_ok-rows.rows.items in
    let office = c.in_ok-office.office in
    let made : c.in_ok-changes.changes.items ≡ migrating_changes e rows = rw c.deref.ensures.value at c.in_ok-changes.ensures in
    subst (λ (changes : List Change). FindsOffice e office changes (state g.S.Store c.args.conn.now) (state g.S.Store c.rows_in.new.conn)) (sym made)
    (found_in e rows office _ _ (c.in_ok-rows.ensures.rows clean) c.in_ok-office.ensures.fit (subst (λ (it : List RowOf). AreRowsOf it office) c.in_ok-all.ensures c.in_ok-office.ensures.rows))

pub returns-in_err-office-clause-damaged : goal.returns-in_err-office-clause-damaged
returns-in_err-office-clause-damaged g c clean h o fit stands =
    let e = c.args.edition in
    let rows = c.in_ok-rows.rows.items in
    let was : c.office_from.result ≡ Err Damaged = search rules in
    let held = c.in_ok-rows.ensures.rows clean in
    c.office_from.ensures.unfit was o fit (subst (λ (it : List RowOf). AreRowsOf it o) (sym c.in_ok-all.ensures) ((rows_migrate e rows o held.none_later fit).0 (held.are o stands)))
