use Rattle.store.proofs.Common.{stopped_as, survives_weaker, Storage, inl, inr, state, Damaged, latest, IsTrue, ◌≡◌, ◌∙◌, Err, refl, sym, subst, rules}
use Rattle.sql_tables.specs.Ours.{IsOurs}
use Rattle.store.proofs.Opening.{kept_whole, opens_found, others_kept, unfit_all, unopened_by}
use Rattle.store.proofs.store.open_latest.Goals as goal

pub returns-in_err-read-clause-unopened : goal.returns-in_err-read-clause-unopened
returns-in_err-read-clause-unopened g c = let whole = c.requires.whole in unopened_by _ _ _ (record {
  damaged = λ clean h.
      let was : c.office_in.result ≡ Err Damaged = search rules in
      unfit_all latest (state g.S.Store c.args.conn.now).now c.requires.edition.alone c.requires.edition.later (c.office_in.ensures.damaged clean was);
  some = λ is. c.requires.edition.some;
  kept = λ clean. kept_whole (state g.S.Store c.args.conn.now) (state g.S.Store c.office_in.new.conn) whole (c.office_in.ensures.reads.rests clean);
  cause = λ settled clean h.
      let was : c.office_in.result ≡ Err Storage = search rules in
      stopped_as _ _ _ _ (λ it. inr (inl it)) (c.office_in.ensures.reads.cause clean was);
  given_back = c.office_in.ensures.reads.ended;
  crash = survives_weaker _ _ _ _ (λ clean db none. absurd none) c.office_in.ensures.reads.survives;
})

pub returns-clause-opened : goal.returns-clause-opened
returns-clause-opened g c = let whole = c.requires.whole in record {
  office = λ clean. opens_found latest c.in_ok-read.read _ _ _ refl (c.in_ok-read.ensures.ok clean);
  ours = λ clean sound is uncounted. subst IsOurs (sym (c.in_ok-read.ensures.ok clean).same.0.now_is) is;
  room = λ clean none. absurd (c.requires.edition.some none);
  others = λ clean. others_kept _ _ (c.in_ok-read.ensures.ok clean).same.0.now_is;
  ended = c.office_in.ensures.reads.ended c.requires.idle;
  alone = λ clean trees h.
      let up : IsTrue (state g.S.Store c.office_in.new.conn).is_open = (c.in_ok-read.ensures.ok clean).same.0.is_open in
      let settled : trees ≡ (state g.S.Store c.office_in.new.conn).committed.trees = g.met.S.Store.settled c.office_in.new.conn.store trees up h in
      settled ∙ search rules;
  is_open = λ clean. search rules;
  crash = survives_weaker _ _ _ _ (λ clean db none. absurd none) c.office_in.ensures.reads.survives;
}

pub returns-in_err-read-clause-unlisted : goal.returns-in_err-read-clause-unlisted
returns-in_err-read-clause-unlisted g c none =
    let was : c.office_in.result ≡ Err Damaged = c.office_in.ensures.unlisted (λ l. none (latest, l, c.requires.edition.alone)) in
    search rules

pub returns-clause-unlisted : goal.returns-clause-unlisted
returns-clause-unlisted g c none =
    let was : c.office_in.result ≡ Err Damaged = c.office_in.ensures.unlisted (λ l. none (latest, l, c.requires.edition.alone)) in
    absurd (let bad = sym c.in_ok-read.was ∙ was in cc)

pub returns-clause-unopened : goal.returns-clause-unopened
returns-clause-unopened g c = tt
