use Rattle.std.proofs.Common.{◌≡◌, ◌+◌, arith, length, List, Err, Result, IsTrue, refl, sym, ap, subst, ◌∙◌}
use Rattle.desk.proofs.Common.{Seen, Survives, state, MayRecoverTo, Change, State, Transforms, Refusal, TheStorage, Reply, StoreFault, AreActedOn, Saves, HasCleanDisk, TheDamaged, TheMemory, Damaged, Memory, IsHinderedAmong, IsStopped}
use Rattle.store.specs.declared.fault.StoreFault.TheVariants.{Storage}
use Rattle.desk.proofs.SavedRows.{saved_keeps, kept_keeps}
use Rattle.desk.proofs.SavedRows.{was_storage}
use Rattle.store.specs.Available.{StaysOurs}
use Rattle.store.proofs.Available.{room_for}
use Rattle.sql_tables.specs.Ours.{HasRoom, IsOurs}
use Rattle.desk.proofs.persistent.PersistentOffice.exchange.Goals as goal

-- changes that transform an office into the next one transform it into what the next one is exchanged for
turned : (changes : List Change) (office next here : State) → here ≡ next → Transforms changes office next → Transforms changes office here
turned changes office next here e transforms = subst (λ (o : State). Transforms changes office o) (sym e) transforms

pub invariant_of-self : goal.invariant_of-self
invariant_of-self g c = record {
  stands = saved_keeps c.args.done.changes.items c.deref.result.now c.deref.ensures.value c.args.self.now.office c.self.inside.office c.swap.new.x (ap (λ k. k.office) c.self.view_is)
      (state g.S.Store c.self.inside.store) (state g.S.Store c.save.new.self) _ (turned c.args.done.changes.items c.args.self.now.office c.args.next.now c.swap.new.x c.swap.ensures.x_after c.requires.transforms) c.save.ensures.safe.crash (λ clean. (c.in-Ok.ensures.saved clean).saved) c.self.invariant.stands;
  ended = c.save.ensures.safe.ended c.self.invariant.ended;
}

pub returns-in-Ok-clause-tables : goal.returns-in-Ok-clause-tables
returns-in-Ok-clause-tables g c =
    saved_keeps c.args.done.changes.items c.deref.result.now c.deref.ensures.value c.args.self.now.office c.self.inside.office c.swap.new.x (ap (λ k. k.office) c.self.view_is)
    (state g.S.Store c.self.inside.store) (state g.S.Store c.save.new.self) _ (turned c.args.done.changes.items c.args.self.now.office c.args.next.now c.swap.new.x c.swap.ensures.x_after c.requires.transforms) c.save.ensures.safe.crash (λ clean. (c.in-Ok.ensures.saved clean).saved) c.self.invariant.stands

pub returns-in-Ok-clause-err : goal.returns-in-Ok-clause-err
returns-in-Ok-clause-err g c = tt

pub returns-in-Ok-clause-ok : goal.returns-in-Ok-clause-ok
returns-in-Ok-clause-ok g c = (refl, c.swap.ensures.x_after)

-- what a crash leaves, of the changes that were given
left_of : (given changes : List Change) (before seen : Seen) (new : Seen) → given ≡ changes → before ≡ seen
    → Survives before new (MayRecoverTo (Saves given) before) → Survives seen new (MayRecoverTo (Saves changes) seen)
left_of given changes before seen new e f h = rw (← e, ← f) h

-- nothing has changed
stays_same : (changes : List Change) (before seen new : Seen) → before ≡ seen → new.now ≡ before.now → StaysOurs changes seen.now new.now
unfolding StaysOurs
stays_same changes before seen new e same rows sound ours t =
    let is = ap (λ (s : Seen). s.now) (sym e) ∙ sym same in
    (subst IsOurs is ours, λ allowed count few room. subst (HasRoom count) is (room_for count (length changes + count) seen.now (omega arith) room))

-- what was saved leaves tables of ours as it does
stays_as : (given changes : List Change) (before seen new : Seen) → given ≡ changes → before ≡ seen → StaysOurs given before.now new.now → StaysOurs changes seen.now new.now
stays_as given changes before seen new e f h = rw (← e, ← f) h

pub returns-in-Err-clause-tables : goal.returns-in-Err-clause-tables
returns-in-Err-clause-tables g c =
    kept_keeps c.self.inside.office (state g.S.Store c.self.inside.store) (state g.S.Store c.save.new.self) _ c.save.ensures.safe.crash c.in-Err.ensures.safe.kept c.self.invariant.stands

-- a connection that was open was open, of equal ones
shut_so : (before seen : Seen) → before ≡ seen → IsTrue before.is_open → IsTrue seen.is_open
shut_so before seen e up = subst (λ (z : Seen). IsTrue z.is_open) e up

-- where a foreign key would write other rows too, what is returned is a storage error
acted_so : (before seen : Seen) (fault : StoreFault) (refusal : Refusal) → before ≡ seen
    → (AreActedOn before.now.schema → ◌≡◌ {A = Result (Unit {0}) StoreFault} (Err fault) (Err Storage)) → (fault ≡ Storage → refusal ≡ TheStorage)
    → AreActedOn seen.now.schema → ◌≡◌ {A = Result Reply Refusal} (Err refusal) (Err TheStorage)
acted_so before seen fault refusal e failed told acted = let is = failed (subst (λ (z : Seen). AreActedOn z.now.schema) (sym e) acted) in ap Err (told cc)

pub returns-in-Err-clause-acted_on : goal.returns-in-Err-clause-acted_on
returns-in-Err-clause-acted_on g c =
    acted_so (state g.S.Store c.self.inside.store) (state g.S.Store c.args.self.now.store) c.in-Err.fault c.refusal_of_fault.result
    (ap (λ k. state g.S.Store k.store) c.self.view_is) c.in-Err.ensures.acted_on c.refusal_of_fault.ensures.storage

-- and why else it is returned
caused_so : (given changes : List Change) (before seen new : Seen) (fault : StoreFault) (refusal : Refusal) → given ≡ changes → before ≡ seen → (fault ≡ Memory → refusal ≡ TheMemory) → (fault ≡ Damaged → refusal ≡ TheDamaged)
    → ((AreActedOn before.now.schema → ⊥) → HasCleanDisk new → ◌≡◌ {A = Result (Unit {0}) StoreFault} (Err fault) (Err Storage) → IsStopped (IsHinderedAmong given) before new)
    → (AreActedOn seen.now.schema → ⊥) → HasCleanDisk new → ◌≡◌ {A = Result Reply Refusal} (Err refusal) (Err TheStorage) → IsStopped (IsHinderedAmong changes) seen new
caused_so given changes before seen new fault refusal e f memory damaged caused quiet clean told =
    let is : refusal ≡ TheStorage = cc in
    subst (λ (z : Seen). IsStopped (IsHinderedAmong changes) z new) f
    (subst (λ (cs : List Change). IsStopped (IsHinderedAmong cs) before new) e (caused (λ acted. quiet (subst (λ (z : Seen). AreActedOn z.now.schema) f acted)) clean (ap Err (was_storage fault refusal memory damaged is))))

pub returns-in-Ok-clause-saved : goal.returns-in-Ok-clause-saved
returns-in-Ok-clause-saved g c =
    let before : state g.S.Store c.self.inside.store ≡ state g.S.Store c.args.self.now.store = ap (λ k. state g.S.Store k.store) c.self.view_is in
    record {
      crash = left_of c.deref.result.now c.args.done.changes.items (state g.S.Store c.self.inside.store) (state g.S.Store c.args.self.now.store) (state g.S.Store c.save.new.self) c.deref.ensures.value before c.save.ensures.safe.crash;
      alone = λ clean. (c.in-Ok.ensures.saved clean).alone;
      stays_open = λ clean. (c.in-Ok.ensures.saved clean).saved.shown.is_open;
      stays_shut = λ clean up. shut_so _ _ before ((c.in-Ok.ensures.saved clean).saved.shown.was_open);
      acted_on = λ acted. absurd (let failed = c.in-Ok.ensures.acted_on (subst (λ (z : Seen). AreActedOn z.now.schema) (sym before) acted) in cc);
      cause = λ quiet clean told. absurd (cc);
      stays = λ clean up. stays_as c.deref.result.now c.args.done.changes.items (state g.S.Store c.self.inside.store) (state g.S.Store c.args.self.now.store) (state g.S.Store c.save.new.self) c.deref.ensures.value before (c.in-Ok.ensures.saved clean).ours;
    }

pub returns-in-Err-clause-saved : goal.returns-in-Err-clause-saved
returns-in-Err-clause-saved g c =
    let before : state g.S.Store c.self.inside.store ≡ state g.S.Store c.args.self.now.store = ap (λ k. state g.S.Store k.store) c.self.view_is in
    record {
      crash = left_of c.deref.result.now c.args.done.changes.items (state g.S.Store c.self.inside.store) (state g.S.Store c.args.self.now.store) (state g.S.Store c.save.new.self) c.deref.ensures.value before c.save.ensures.safe.crash;
      alone = λ _. tt;
      stays_open = λ _. tt;
      stays_shut = λ clean up. shut_so _ _ before (c.in-Err.ensures.safe.kept clean up).0;
      acted_on = λ _. refl;
      cause = caused_so c.deref.result.now c.args.done.changes.items (state g.S.Store c.self.inside.store) (state g.S.Store c.args.self.now.store) (state g.S.Store c.save.new.self) c.in-Err.fault c.refusal_of_fault.result c.deref.ensures.value
          before c.refusal_of_fault.ensures.memory c.refusal_of_fault.ensures.damaged (c.in-Err.ensures.cause c.self.invariant.ended);
      stays = λ clean up. stays_same c.args.done.changes.items (state g.S.Store c.self.inside.store) (state g.S.Store c.args.self.now.store) (state g.S.Store c.save.new.self) before (c.in-Err.ensures.safe.kept clean up).1;
    }
