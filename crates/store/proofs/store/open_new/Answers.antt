use Rattle.store.proofs.Common.{survives_weaker, Storage, stopped_as, IsHinderedOpening, state, ◌≡◌, Err, inl, rules, creating}
use Rattle.store.proofs.NewTables.{opens_new, founds_left, founds_others, creates_ours}
use Rattle.store.proofs.Opening.{unopened_by}
use Rattle.store.proofs.store.open_new.Goals as goal

pub returns-in_err-transact-clause-unopened : goal.returns-in_err-transact-clause-unopened
returns-in_err-transact-clause-unopened g c = unopened_by _ _ _ (record {
  damaged = λ clean is. absurd (c.transact.ensures.faults (search rules));
  some = λ is. absurd (c.transact.ensures.faults (search rules));
  kept = λ clean. search rules;
  cause = λ settled clean h.
      let was : c.transact.result ≡ Err Storage = search rules in
      stopped_as creating.hinders IsHinderedOpening _ _ (λ it. inl (c.requires.none, it)) (c.transact.ensures.cause settled clean was);
  given_back = λ settled. c.transact.ensures.safe.ended settled;
  crash = survives_weaker _ _ _ _ (λ clean trees h. founds_left _ trees c.requires.none h) c.transact.ensures.safe.crash;
})

-- That they were made is searched for, so that a body that makes none is refused at it.
pub returns-clause-opened : goal.returns-clause-opened
returns-clause-opened g c = record {
  office = λ clean. opens_new _ _ _ c.requires.none c.new.ensures.empty (search rules);
  ours = λ clean sound ours uncounted. (creates_ours (state g.S.Store c.args.conn.now).now (state g.S.Store c.transact.new.conn).now (search rules) sound ours uncounted).0;
  room = λ clean none sound ours uncounted. (creates_ours (state g.S.Store c.args.conn.now).now (state g.S.Store c.transact.new.conn).now (search rules) sound ours uncounted).1;
  others = λ clean. founds_others _ _ (search rules);
  ended = c.transact.ensures.safe.ended c.requires.idle;
  alone = λ clean trees h. search rules;
  is_open = λ clean. search rules;
  crash = survives_weaker _ _ _ _ (λ clean trees h. founds_left _ trees c.requires.none h) c.transact.ensures.safe.crash;
}

pub returns-clause-unopened : goal.returns-clause-unopened
returns-clause-unopened g c = tt
