-- What comes of an opening: the office that was read, in the latest edition or migrated to it.
use Rattle.store.proofs.Common.{IsTrue, Rests, AreActedOnAmong, migrated, migrating, Held, Seen, HasCleanDisk, IsUnchanged, Survives, Database, Trees, Schema, survives_then, Change, State, AnEdition, First, Second, Third, rows_in_edition, HasSaved, IsKept, MayRecoverTo, IsStopped, Lists, stopped_after, IsHinderedOpening, IsHinderedToMigrate, IsEarlier, beyond, latest, number_of, rolls_of, IsEditionOf, IsDamaged, IsUnfitIn, Damaged, Storage, Brings, HasNone, HasNoneOf, HoldIn, Opens, Migrates, StandsIn, FindsOffice, ◌≡◌, ◌≢◌, ◌<◌, ◌≤◌, List, Result, Ok, Err, IfErr, ap, inl, inr, refl, sym, subst, ◌∙◌, arith}
use Rattle.sqlite_trees.specs.declared.store.Store.{Ghosts}
use Rattle.store.specs.declared.fault.StoreFault.{StoreFault}
use Rattle.store.specs.Available.{KeepsOurs}
use Rattle.store.specs.Opening.{IsLeftUnopened}
use Rattle.store.specs.Tables.{LeavesTables}
use Rattle.store.proofs.Migrated.{rises_by}
use Rattle.store.proofs.Standing.{hold_same}
use Rattle.store.proofs.SameTrees.{not_beyond, one_or_apart}

-- an edition that is not the latest is an earlier one
pub earlier_of : (e : AnEdition) → e ≢ latest → IsEarlier e
earlier_of First other = tt
earlier_of Second other = tt
earlier_of Third other = absurd (other refl)

-- the edition that was found is that of the tables
pub edition_there : (e : AnEdition) (one two there : Schema) → one ≡ there → two ≡ there → (HasNone one → ⊥) → HasNoneOf (beyond e) two → ((f : AnEdition) → number_of f < number_of e → HasNoneOf (beyond f) two → ⊥) → IsEditionOf e there
edition_there e one two there p q some alone later = record {
  some = λ none. some (subst HasNone (sym p) none);
  alone = subst (HasNoneOf (beyond e)) q alone;
  later = subst (λ (s : Schema). (f : AnEdition) → number_of f < number_of e → HasNoneOf (beyond f) s → ⊥) q later;
}

-- tables of the latest edition were read
pub opens_found : (e : AnEdition) (office : State) (changes : List Change) (old new : Seen) → e ≡ latest → FindsOffice e office changes old new → Opens old.now new.now office
opens_found e office changes old new is found = inr (inl (found.same.0.now_is, subst (λ it. HoldIn it old.now (rows_in_edition it office)) is found.holds))

module _ (e : AnEdition) (office : State) (changes : List Change) (old mid : Seen) (earlier : IsEarlier e) (alone : HasNoneOf (beyond e) old.now.schema) (found : FindsOffice e office changes old mid)
    (quiet : AreActedOnAmong migrated mid.now.schema → ⊥) where
  -- tables of an earlier edition were read and migrated
  turns : (db : Database) → (let it = migrating e changes in it.does mid.now db) → Migrates old.now db office × LeavesTables old.now db × KeepsOurs old.now db
  turns db did =
      let done = rises_by e changes mid.now db quiet did found.asks (rows_in_edition e office) (subst (λ it. HoldIn e it (rows_in_edition e office)) (sym found.same.0.now_is) found.holds) in (
        record {
          edition = e;
          earlier = earlier;
          stood = record { holds = found.holds; allowed = found.allowed; alone = alone };
          fit = found.fit;
          stands = hold_same (rolls_of latest) (number_of latest) db _ _ found.turned done.0;
          ruled = done.1;
        },
        subst (λ (was : Database). LeavesTables was db) found.same.0.now_is done.2,
        subst (λ (was : Database). KeepsOurs was db) found.same.0.now_is done.3,
      )

  pub opens_migrated : (new : Seen) → HasSaved (let it = migrating e changes in it.does) mid new → Opens old.now new.now office × LeavesTables old.now new.now × KeepsOurs old.now new.now
  opens_migrated new saved = let done = turns new.now saved.step in (inr (inr done.0), done.1, done.2)

  -- what a crash leaves of that
  migrated_left : (trees : Trees) → MayRecoverTo (let it = migrating e changes in it.does) mid trees → MayRecoverTo Brings old trees
  migrated_left trees left = record { was_open = found.same.0.was_open; db = left.db; sound = left.sound; step = inr (office, (turns left.db left.step).0); same = left.same }

-- what a crash leaves of reading and migrating
pub brings_left : (e : AnEdition) (office : State) (changes : List Change) (old mid new : Seen) → IsEarlier e → HasNoneOf (beyond e) old.now.schema → (HasCleanDisk mid → FindsOffice e office changes old mid) → (AreActedOnAmong migrated mid.now.schema → ⊥)
    → Survives old mid (λ _. ⊥) → Survives mid new (MayRecoverTo (let it = migrating e changes in it.does) mid) → Survives old new (MayRecoverTo Brings old)
brings_left e office changes old mid new earlier alone found quiet one two =
    survives_then old mid new (λ _. ⊥) (MayRecoverTo (let it = migrating e changes in it.does) mid) (MayRecoverTo Brings old) (λ _ db none. absurd none)
    (λ clean trees left. let early : HasCleanDisk mid = omega (arith, two.clean) in migrated_left e office changes old mid earlier alone (found early) quiet trees left) one two

-- each other table stays where nothing changes
pub others_kept : (old new : Database) → new ≡ old → LeavesTables old new
unfolding LeavesTables
others_kept old new same t listed other = (subst (λ (db : Database). Lists db.schema t) (sym same) listed, ap (λ (db : Database). db.trees t.tree) same)

-- reading changed nothing, and a call after it changed nothing
pub kept_after : (old mid new : Seen) → IsUnchanged old mid → IsKept mid new → IsKept old new
kept_after old mid new same kept up =
    let k = kept up in
    (same.0.was_open, k.1 ∙ same.0.now_is, k.2 ∙ same.0.committed_is)

-- nor does reading, where nothing is open to be undone
pub kept_whole : (old new : Seen) → (IsTrue old.is_open → old.now ≡ old.committed) → Rests old new → IsKept old new
kept_whole old new whole rests up = let r = rests up in let k = r.1 (whole r.0) in (r.0, k.0, k.1)

-- tables that stand for no fit office in the edition that is there stand for none in any
pub unfit_all : (e : AnEdition) (db : Database) → HasNoneOf (beyond e) db.schema → ((f : AnEdition) → number_of f < number_of e → HasNoneOf (beyond f) db.schema → ⊥) → IsUnfitIn e db → IsDamaged db
unfit_all e db alone later unfit f office fit stands = elim (one_or_apart e f) [
  | inl same ↦ unfit office fit (subst (λ it. StandsIn it db office) (sym same) stands)
  | inr (inl apart) ↦ later f apart.later stands.alone
  | inr (inr apart) ↦ not_beyond f e db (rows_in_edition f office) stands.holds apart alone
]

-- tables of an earlier edition were read, and are not migrated
pub migration_refused : (e : AnEdition) (office : State) (changes : List Change) (old mid new : Seen) → IsEarlier e → HasNoneOf (beyond e) old.now.schema → FindsOffice e office changes old mid → IsUnchanged old mid → Survives old mid (λ _. ⊥) → HasCleanDisk mid
    → mid.faults ≤ new.faults → IsStopped (IsHinderedToMigrate e changes) mid new → IsStopped IsHinderedOpening old new
migration_refused e office changes old mid new earlier alone found same survives clean up stops =
    stopped_after (IsHinderedToMigrate e changes) IsHinderedOpening old mid new survives clean up (λ h.
    inr (inr (record {
      edition = e;
      earlier = earlier;
      office = office;
      stands = record { holds = found.holds; allowed = found.allowed; alone = alone };
      rows = found.rows;
      are = found.are;
      hindered = subst (λ (cs : List Change). IsHinderedToMigrate e cs old.step_limit old.now) found.migrate (subst (IsHinderedToMigrate e changes old.step_limit) same.0.now_is h);
    }))) stops

-- what is left unopened by a call is left so by its fault
pub unopened_by : {S A : Type 0} {g : Ghosts S} (r : Result A StoreFault) (old new : Held S) → IsLeftUnopened g (r ≡ Err Storage) (r ≡ Err Damaged) old new → IfErr r (λ fault. IsLeftUnopened g (fault ≡ Storage) (fault ≡ Damaged) old new)
unopened_by (Ok a) old new it = tt
unopened_by (Err fault) old new it = record {
  damaged = λ clean is. it.damaged clean (ap Err is);
  some = λ is. it.some (ap Err is);
  kept = it.kept;
  cause = λ settled clean is. it.cause settled clean (ap Err is);
  given_back = it.given_back;
  crash = it.crash;
}
