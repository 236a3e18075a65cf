use Rattle.store.proofs.Common.{survives_weaker, HasCleanDisk, Survives, state, IsCaused, IsKept, MayRecoverTo, Storage, IsHinderedAmong, AreInert, IsSaving, Saves, ◌≡◌, OnErr, OnOk, rules, subst, false}
use Rattle.store.proofs.ChangesInOrder.{saving_call, saves_left}
use Rattle.store.proofs.store.Store.save.Goals as goal

pub returns-clause-saved : goal.returns-clause-saved
returns-clause-saved g c =
    let inert = subst AreInert c.schema.ensures.value (c.are_left.ensures.sound c.if-not-are_left.false) in
    subst (λ k. HasCleanDisk (state g.S.Store c.transact.new.conn) → OnOk c.transact.result (IsSaving c.args.changes.now (state g.S.Store k) (state g.S.Store c.transact.new.conn))) c.self.view_is
    (λ clean. saving_call _ _ _ _ inert (λ trees up h. g.met.S.Store.settled c.transact.new.conn.store trees up h) (c.transact.ensures.saved clean))

pub returns-clause-safe : goal.returns-clause-safe
returns-clause-safe g c =
    let inert = subst AreInert c.schema.ensures.value (c.are_left.ensures.sound c.if-not-are_left.false) in
    let safe = c.transact.ensures.safe in record {
      kept = subst (λ k. HasCleanDisk (state g.S.Store c.transact.new.conn) → OnErr c.transact.result (IsKept (state g.S.Store k) (state g.S.Store c.transact.new.conn))) c.self.view_is safe.kept;
      ended = search rules;
      begun = search rules;
      crash = subst (λ k. Survives (state g.S.Store k) (state g.S.Store c.transact.new.conn) (MayRecoverTo (Saves c.args.changes.now) (state g.S.Store k))) c.self.view_is
          (survives_weaker _ _ _ _ (λ clean trees h. saves_left _ _ trees inert h) safe.crash);
    }

pub returns-clause-cause : goal.returns-clause-cause
returns-clause-cause g c settled quiet =
    subst (λ k. k.in_transaction ≡ false → IsCaused Storage (IsHinderedAmong c.args.changes.now) c.transact.result (state g.S.Store k) (state g.S.Store c.transact.new.conn)) c.self.view_is c.transact.ensures.cause settled
