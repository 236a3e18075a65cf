use Rattle.store.proofs.Common.{state, latest, IsEditionOf, HasNone, ◌≡◌, ◌≢◌, subst, rules, AnEdition as Edition}
use Rattle.store.proofs.Opening.{earlier_of, edition_there}
use Rattle.store.proofs.store.open_tables.Goals as goal

pub open_new-requires : goal.open_new-requires
open_new-requires g c = record { idle = search rules; none = subst HasNone c.schema.ensures.value (c.has_none.ensures.right c.if-has_none.true) }

pub open_latest-requires : goal.open_latest-requires
open_latest-requires g c =
    let latest_one : c.edition_of-edition.result ≡ latest = search rules in
    let there = edition_there c.edition_of-edition.result _ _ _ c.schema.ensures.value c.schema-2.ensures.value (c.has_none.ensures.wrong c.if-has_none.false) c.edition_of-edition.ensures.alone c.edition_of-edition.ensures.later in
    record { idle = search rules; whole = λ up. search rules; edition = subst (λ (e : Edition). IsEditionOf e (state g.S.Store c.args.conn.now).now.schema) latest_one there }

pub open_earlier-requires : goal.open_earlier-requires
open_earlier-requires g c =
    let other : c.edition_of-edition.result ≢ latest = search rules in
    record {
      idle = search rules;
      whole = λ up. search rules;
      edition = edition_there c.edition_of-edition.result _ _ _ c.schema.ensures.value c.schema-2.ensures.value (c.has_none.ensures.wrong c.if-has_none.false) c.edition_of-edition.ensures.alone c.edition_of-edition.ensures.later;
      earlier = earlier_of c.edition_of-edition.result other;
    }

pub returns-clause-unopened : goal.returns-clause-unopened
returns-clause-unopened g c = c.open_earlier.ensures.unopened

pub returns-clause-opened : goal.returns-clause-opened
returns-clause-opened g c = c.open_earlier.ensures.opened
