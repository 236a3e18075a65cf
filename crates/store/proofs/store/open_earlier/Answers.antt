use Rattle.store.proofs.Common.{survives_weaker, Schema, migrated, AreActedOnAmong, stopped_as, ◌↔◌, inl, inr, refl, subst, HasCleanDisk, Database, state, Damaged, Storage, IsTrue, ap, ◌≡◌, ◌∙◌, Err, sym, arith, rules, false}
use Rattle.store.proofs.Opening.{brings_left, kept_after, kept_whole, opens_migrated, migration_refused, unfit_all, unopened_by}
use Rattle.store.proofs.Migrated.{none_acts}
use Rattle.store.proofs.store.open_earlier.Goals as goal

pub returns-in_err-migrated-clause-unopened : goal.returns-in_err-migrated-clause-unopened
returns-in_err-migrated-clause-unopened g c =
    let whole = c.requires.whole in
    unopened_by _ _ _ (record {
      damaged = λ clean h.
          let was : c.office_in.result ≡ Err Damaged = search rules in
          unfit_all c.args.edition (state g.S.Store c.args.conn.now).now c.requires.edition.alone c.requires.edition.later (c.office_in.ensures.damaged clean was);
      some = λ is. c.requires.edition.some;
      kept = λ clean. kept_whole (state g.S.Store c.args.conn.now) (state g.S.Store c.office_in.new.conn) whole (c.office_in.ensures.reads.rests clean);
      cause = λ settled clean h.
          let was : c.office_in.result ≡ Err Storage = search rules in
          stopped_as _ _ _ _ (λ it. inr (inl it)) (c.office_in.ensures.reads.cause clean was);
      given_back = c.office_in.ensures.reads.ended;
      crash = survives_weaker _ _ _ _ (λ clean db none. absurd none) c.office_in.ensures.reads.survives;
    })

pub returns-in_err-migrated-clause-unlisted : goal.returns-in_err-migrated-clause-unlisted
returns-in_err-migrated-clause-unlisted g c none =
    let was : c.office_in.result ≡ Err Damaged = c.office_in.ensures.unlisted (λ l. none (c.args.edition, l, c.requires.edition.alone)) in
    search rules

pub returns-then-not-are_left_among-clause-unlisted : goal.returns-then-not-are_left_among-clause-unlisted
returns-then-not-are_left_among-clause-unlisted g c none =
    let was : c.office_in.result ≡ Err Damaged = c.office_in.ensures.unlisted (λ l. none (c.args.edition, l, c.requires.edition.alone)) in
    absurd (let bad = sym c.in_ok-migrated.was ∙ was in cc)

pub returns-in_err-transact-clause-unlisted : goal.returns-in_err-transact-clause-unlisted
returns-in_err-transact-clause-unlisted g c none =
    let was : c.office_in.result ≡ Err Damaged = c.office_in.ensures.unlisted (λ l. none (c.args.edition, l, c.requires.edition.alone)) in
    absurd (let bad = sym c.in_ok-migrated.was ∙ was in cc)

pub returns-clause-unlisted : goal.returns-clause-unlisted
returns-clause-unlisted g c none =
    let was : c.office_in.result ≡ Err Damaged = c.office_in.ensures.unlisted (λ l. none (c.args.edition, l, c.requires.edition.alone)) in
    absurd (let bad = sym c.in_ok-migrated.was ∙ was in cc)

pub returns-then-not-are_left_among-clause-unopened : goal.returns-then-not-are_left_among-clause-unopened
returns-then-not-are_left_among-clause-unopened g c = record {
  damaged = λ clean is. absurd (cc);
  some = λ is. absurd (cc);
  kept = λ clean. kept_after (state g.S.Store c.args.conn.now) (state g.S.Store c.office_in.new.conn) (state g.S.Store c.office_in.new.conn) (c.in_ok-migrated.ensures.ok clean).same (λ up. (up, refl, refl));
  cause = λ settled clean h.
      migration_refused c.args.edition c.in_ok-migrated.migrated c.in_ok-migrated.changes.items (state g.S.Store c.args.conn.now) (state g.S.Store c.office_in.new.conn) (state g.S.Store c.office_in.new.conn) c.requires.earlier c.requires.edition.alone
      (c.in_ok-migrated.ensures.ok clean) (c.in_ok-migrated.ensures.ok clean).same c.in_ok-migrated.ensures.reads.survives clean (omega arith)
      (record { why = inr (inr (inl (subst (AreActedOnAmong migrated) c.schema.ensures.value (c.are_left_among.ensures.exact.0 c.if-not-are_left_among.true)))) });
  given_back = c.office_in.ensures.reads.ended;
  crash = survives_weaker _ _ _ _ (λ clean db none. absurd none) c.office_in.ensures.reads.survives;
}

pub returns-in_err-transact-clause-unopened : goal.returns-in_err-transact-clause-unopened
returns-in_err-transact-clause-unopened g c =
    let quiet = none_acts c.are_left_among.result _ c.if-not-are_left_among.false (subst (λ (s : Schema). (c.are_left_among.result ≡ false) ↔ AreActedOnAmong migrated s) c.schema.ensures.value c.are_left_among.ensures.exact) in
    unopened_by _ _ _ (record {
      damaged = λ clean is. absurd (c.transact.ensures.faults (search rules));
      some = λ is. absurd (c.transact.ensures.faults (search rules));
      kept = λ clean.
          let early : HasCleanDisk (state g.S.Store c.office_in.new.conn) = omega (arith, c.transact.ensures.safe.crash.clean) in
          kept_after (state g.S.Store c.args.conn.now) (state g.S.Store c.office_in.new.conn) (state g.S.Store c.transact.new.conn) (c.in_ok-migrated.ensures.ok early).same (c.in_err-transact.ensures.safe.kept clean);
      cause = λ settled clean h.
          let was : c.transact.result ≡ Err Storage = search rules in
          let early : HasCleanDisk (state g.S.Store c.office_in.new.conn) = omega (arith, c.transact.ensures.safe.crash.clean) in
          migration_refused c.args.edition c.in_ok-migrated.migrated c.in_ok-migrated.changes.items (state g.S.Store c.args.conn.now) (state g.S.Store c.office_in.new.conn) (state g.S.Store c.transact.new.conn) c.requires.earlier c.requires.edition.alone (c.in_ok-migrated.ensures.ok early)
          (c.in_ok-migrated.ensures.ok early).same c.in_ok-migrated.ensures.reads.survives early c.transact.ensures.safe.crash.counts (stopped_as _ _ _ _ (λ h. inr h) (rw c.deref.ensures.value at (c.transact.ensures.cause (c.office_in.ensures.reads.ended settled) clean was)));
      given_back = λ settled. c.transact.ensures.safe.ended (c.office_in.ensures.reads.ended settled);
      crash = brings_left c.args.edition c.in_ok-migrated.migrated c.in_ok-migrated.changes.items _ _ _ c.requires.earlier c.requires.edition.alone c.in_ok-migrated.ensures.ok quiet c.in_ok-migrated.ensures.reads.survives (rw c.deref.ensures.value at c.transact.ensures.safe.crash);
    })

pub returns-clause-opened : goal.returns-clause-opened
returns-clause-opened g c =
    let quiet = none_acts c.are_left_among.result _ c.if-not-are_left_among.false (subst (λ (s : Schema). (c.are_left_among.result ≡ false) ↔ AreActedOnAmong migrated s) c.schema.ensures.value c.are_left_among.ensures.exact) in
    let opens = λ (clean : HasCleanDisk (state g.S.Store c.transact.new.conn)).
    let early : HasCleanDisk (state g.S.Store c.office_in.new.conn) = omega (arith, c.transact.ensures.safe.crash.clean) in
    opens_migrated c.args.edition c.in_ok-migrated.migrated c.in_ok-migrated.changes.items _ _ c.requires.earlier c.requires.edition.alone (c.in_ok-migrated.ensures.ok early) quiet _ (rw c.deref.ensures.value at (c.in_ok-transact.ensures.saved clean)) in
    record {
      office = λ clean. (opens clean).0;
      ours = λ clean. (opens clean).2;
      room = λ clean none. absurd (c.requires.edition.some none);
      others = λ clean. (opens clean).1;
      ended = c.transact.ensures.safe.ended (c.office_in.ensures.reads.ended c.requires.idle);
      alone = λ clean trees h.
          let shown = (c.in_ok-transact.ensures.saved clean).shown in
          let up : IsTrue (state g.S.Store c.transact.new.conn).is_open = shown.is_open in
          let settled : trees ≡ (state g.S.Store c.transact.new.conn).committed.trees = g.met.S.Store.settled c.transact.new.conn.store trees up h in
          settled ∙ ap (λ (db : Database). db.trees) shown.committed_is;
      is_open = λ clean. search rules;
      crash = brings_left c.args.edition c.in_ok-migrated.migrated c.in_ok-migrated.changes.items _ _ _ c.requires.earlier c.requires.edition.alone c.in_ok-migrated.ensures.ok quiet c.in_ok-migrated.ensures.reads.survives (rw c.deref.ensures.value at c.transact.ensures.safe.crash);
    }

pub returns-clause-unopened : goal.returns-clause-unopened
returns-clause-unopened g c = tt
