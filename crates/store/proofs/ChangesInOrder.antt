-- Changes one after another.
use Rattle.store.proofs.Common.{Database, Change, Add, Put, Remove, after_changes, table_of, after_both, Trees, HasSaved, MayRecoverTo, TablesHold, Schema, Has, Lists, table_at, AllNeed, AreInert, IsSaving, Needs, Spares, ◌≡◌, List, [], ◌∷◌, ◌++◌, refl, sym, ap, subst, ◌∙◌, Result, Ok, Err, OnOk, IsTrue, Seen as State, each_of, did_all, applying}
use Rattle.store.specs.Saving.{Applies, LeavesOthers, Saves}
use Rattle.store.specs.Available.{StaysOurs}
use Rattle.store.proofs.Available.{run_ours}
use Rattle.store.specs.Inside.Saving.{AppliesOne}
use Rattle.store.proofs.Held.{applies_one}

-- no change applies nothing
pub applies_none : (db : Database) → Applies [] db db
unfolding Applies
applies_none db need rows t = (t, record { schema = refl; others = λ any h apart. refl })

-- what spares the other tables twice spares them
spares_then : (x y z : Database) → Spares x y → Spares y z → Spares x z
spares_then x y z p q = record {
  schema = q.schema ∙ p.schema;
  others = λ any h apart.
      q.others any (subst (λ (s : Schema). Has s.tables any) (sym p.schema) h) (λ table among place listed. apart table among place (subst (λ (s : Schema). Lists s (table_at table place)) p.schema listed))
      ∙ p.others any h apart;
}

-- what changes ask of the schema, one of them after the others
need_more : (cs : List Change) (c : Change) (s : Schema) → AllNeed (cs ++ c ∷ []) s → AllNeed cs s × Needs c s
need_more [] c s all = (tt, all.0)
need_more (d ∷ cs) c s all = let rest = need_more cs c s all.1 in ((all.0, rest.0), rest.1)

-- where no foreign key acts on the tables they have it
all_needed : (cs : List Change) (s : Schema) → AreInert s → AllNeed cs s
all_needed [] s inert = tt
all_needed (c ∷ cs) s inert = (one c, all_needed cs s inert)
  where
    one : (c : Change) → Needs c s
    one (Add row) = tt
    one (Put row) = inert row.table
    one (Remove part) = inert (table_of part)

applies_then : (cs : List Change) (c : Change) (x y z : Database) → Applies cs x y → AppliesOne c y z → Applies (cs ++ c ∷ []) x z
unfolding Applies AppliesOne
applies_then cs c x y z p q need rows t =
    let needs = need_more cs c x.schema need in
    let first = p needs.0 rows t in
    let then = q (subst (Needs c) (sym first.1.schema) needs.1) (after_changes cs rows) first.0 in
    (subst (TablesHold z) (sym (after_both cs (c ∷ []) rows)) then.0, spares_then x y z first.1 then.1)

-- changes that were made one after another were applied
pub applied : (changes : List Change) (old new : Database) → (let all = each_of applying changes in all.does old new) → Applies changes old new
applied changes old new = did_all applying Applies (λ done c a b d p one. applies_then done c a b d p (applies_one c b d one)) changes old new (applies_none old)

-- changes that were applied are saved, where nothing acts on the tables
pub saves : (changes : List Change) (old new : Database) → AreInert old.schema → Applies changes old new → Saves changes old new
unfolding Applies Saves
saves changes old new inert p rows t = (p (all_needed changes old.schema inert) rows t).0

-- the same of what a crash leaves
pub saves_left : (changes : List Change) (old : State) (trees : Trees) → AreInert old.now.schema → MayRecoverTo (let all = each_of applying changes in all.does) old trees → MayRecoverTo (Saves changes) old trees
saves_left changes old trees inert h = record { was_open = h.was_open; db = h.db; sound = h.sound; step = saves changes old.now h.db inert (applied changes old.now h.db h.step); same = h.same }

-- changes that were applied left the other tables alone
pub leaves_others : (changes : List Change) (old new : Database) → AreInert old.schema → Applies changes old new → LeavesOthers old new
unfolding Applies LeavesOthers
leaves_others changes old new inert p rows t = (p (all_needed changes old.schema inert) rows t).1

-- so a transaction of them has saved them, where a crash leaves what was committed
pub saving_call : {E : Type 0} (changes : List Change) (a b : State) (r : Result (Unit {0}) E) → AreInert a.now.schema → ((trees : Trees) → IsTrue b.is_open → b.may_leave trees → trees ≡ b.committed.trees)
    → OnOk r (HasSaved (let all = each_of applying changes in all.does) a b) → OnOk r (IsSaving changes a b)
unfolding StaysOurs
saving_call changes a b (Ok u) inert settled h = record {
  saved = record { shown = h.shown; step = saves changes a.now b.now inert (applied changes a.now b.now h.step) };
  others = leaves_others changes a.now b.now inert (applied changes a.now b.now h.step);
  ours = λ rows sound ours t. run_ours changes rows a.now b.now sound ours t h.step;
  alone = λ trees left. settled trees h.shown.is_open left ∙ ap (λ (db : Database). db.trees) h.shown.committed_is;
}
saving_call changes a b (Err e) inert settled h = h
