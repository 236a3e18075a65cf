-- Changes that transform the rows of one office into those of the next, saved: the tables stand for the next one.
use Rattle.std.proofs.Common.{◌≡◌, IsTrue, inl, inr, List, None, refl, sym, subst, arith}
use Rattle.sqlite.specs.Effect.{Database}
use Rattle.desk.proofs.Common.{Seen, HasCleanDisk, Survives, survives_weaker, Trees, HasSaved, IsKept, MayRecoverTo, Change, Done, State, rows_in, Transforms, Request, IsFit, Makes, refusal, layers, Refusal, StoreFault, latest, number_of, rolls_of, hold_same, CarriesOut, Keeps, StandsForOne}
use Rattle.schema.specs.Changes.{after_changes}
use Rattle.store.specs.Tables.{StandsFor, Opens}
use Rattle.office_model.specs.declared.refusal.Refusal.TheVariants as no
use Rattle.store.specs.declared.fault.StoreFault.TheVariants as store
use Rattle.store.specs.Saving.{Saves}

-- what is saved stands for the next office
pub stands_after : (changes : List Change) (office next : State) (old new : Database) → Transforms changes office next → Saves changes old new → StandsFor old office → StandsFor new next
unfolding Saves
stands_after changes office next old new transforms saves stands = hold_same (rolls_of latest) (number_of latest) new (after_changes changes (rows_in office)) (rows_in next) transforms.rows (saves (rows_in office) stands)

-- a disk that is clean was clean before
pub was_clean : (old new : Seen) (P : Trees → Type 0) → Survives old new P → HasCleanDisk new → HasCleanDisk old
was_clean old new P survives clean = let c = survives.clean in omega (arith, c, clean)

-- after the changes are saved the tables stand for the next office
pub saved_keeps : (changes given : List Change) → given ≡ changes → (office here next : State) → here ≡ office → (old new : Seen) (P : Trees → Type 0)
    → Transforms changes office next → Survives old new P → (HasCleanDisk new → HasSaved (Saves given) old new) → Keeps old here → Keeps new next
saved_keeps changes given same_changes office here next same old new P transforms survives saved keeps clean is_open =
    let s = saved clean in
    let step : Saves changes old.now new.now = subst (λ cs. Saves cs old.now new.now) same_changes s.step in
    let before : StandsFor old.now office = subst (λ (o : State). StandsFor old.now o) same (keeps (was_clean old new P survives clean) s.shown.was_open) in
    stands_after changes office next old.now new.now transforms step before

-- where nothing was changed the tables stand for the office as before
pub kept_keeps : (office : State) (old new : Seen) (P : Trees → Type 0) → Survives old new P → (HasCleanDisk new → IsKept old new) → Keeps old office → Keeps new office
kept_keeps office old new P survives kept keeps clean is_open =
    let k = kept clean is_open in
    subst (λ (db : Database). StandsFor db office) (sym k.1) (keeps (was_clean old new P survives clean) k.0)

-- what a crash may leave of saved changes is what it may leave of the request
left_carried : (q : Request) (office next : State) (done : Done) (old : Seen) → refusal layers office q ≡ None → Makes layers office q done.reply next → IsFit next → Transforms done.changes.items office next → (IsTrue old.is_open → StandsFor old.now office)
    → (trees : Trees) → MayRecoverTo (Saves done.changes.items) old trees → MayRecoverTo (λ _. StandsForOne (CarriesOut office q)) old trees
left_carried q office next done old none made fit transforms stands trees left = record {
  was_open = left.was_open;
  db = left.db;
  sound = left.sound;
  step = record { office = next; one = (done.reply, (none, made)); fit = fit; stands = stands_after done.changes.items office next old.now left.db transforms left.step (stands left.was_open) };
  same = left.same;
}

-- the same of the call
pub call_carried : (q : Request) (office next : State) (done : Done) (old new : Seen) → refusal layers office q ≡ None → Makes layers office q done.reply next → IsFit next → Transforms done.changes.items office next → Keeps old office
    → Survives old new (MayRecoverTo (Saves done.changes.items) old) → Survives old new (MayRecoverTo (λ _. StandsForOne (CarriesOut office q)) old)
call_carried q office next done old new none made fit transforms keeps it =
    survives_weaker old new _ _ (λ clean trees left. left_carried q office next done old none made fit transforms (λ up. keeps (was_clean old new _ it clean) up) trees left) it

-- an office that was opened is one that the tables stand for
pub opened_stands : (old new : Database) (office : State) → Opens old new office → StandsFor new office
opened_stands old new office (inl made) = subst (λ (o : State). StandsFor new o) (sym made.1) made.2
opened_stands old new office (inr (inl found)) = subst (λ (db : Database). StandsFor db office) (sym found.0) found.1
opened_stands old new office (inr (inr migrated)) = migrated.stands

-- what is answered as a fault of the storage was one of the store
pub was_storage : (fault : StoreFault) (refusal : Refusal) → (fault ≡ store.Memory → refusal ≡ no.Memory) → (fault ≡ store.Damaged → refusal ≡ no.Damaged) → refusal ≡ no.Storage → fault ≡ store.Storage
was_storage store.Memory refusal memory damaged e = let is = memory refl in cc
was_storage store.Storage refusal memory damaged e = refl
was_storage store.Damaged refusal memory damaged e = let is = damaged refl in cc
