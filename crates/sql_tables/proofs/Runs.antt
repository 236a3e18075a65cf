-- Statements one after the other, and what they leave alone.
use Rattle.sql_tables.proofs.Common.{AllZip, Decides-ltb, table_named, IsSound, IsTableRow, Has, IsPermutation, Row, Schema, Table, Database, State, HasCleanDisk, KeepsCommit, Executes, Survives, survives_then, Trees, all_has, has_got, Ours, Place, Rules, Lists, cells, table_at, same_table, cases_Bool, IsKeyed, Stands, WritesOnly, Creates, HasStepped, IsPart, Rests, HasRun, Stays, TableFault, Memory, Storage, ◌≡◌, ◌≢◌, ◌⊎◌, inl, inr, arith, ℕ, List, [], ◌∷◌, refl, sym, subst, ◌∙◌, IsTrue, true, false, Bool, map, ap, ◌<◌, ◌^◌, nat_lt, Option, Some, slice_get, Result, Ok, Err, IfOk, IsErrAnd}
pub use Rattle.schema.proofs.Tables.{same_table_is, same_table_self}
use Rattle.sql_tables.proofs.Causes.{stopped_after, stopped_as}
use Rattle.std.proofs.lemmas.Result.{err_from_is_err_and}
use Rattle.sql_tables.proofs.Starved.{lacks_after}
use Rattle.sql_tables.proofs.Places.{listed_along}
use Rattle.sql_tables.proofs.Understood.{IsWriteText, written_sound}

-- a table stands as before where it is listed as before, with the rows of its tree
pub stands_kept : (table : Place → Table) (place : Place) (same : (table place).tree ≡ place.tree) (rows : List Row) (old new : Database) → Lists new.schema (table place)
    → new.trees (table place).tree ≡ old.trees (table place).tree → Stands table place rows old → Stands table place rows new
stands_kept table place same rows old new listed kept stands = record {
  listed = listed;
  keyed = subst IsKeyed (subst (λ n. old.trees n ≡ new.trees n) same (sym kept)) stands.keyed;
  holds = subst (λ all. IsPermutation rows (map (cells (table place)) all)) (sym kept) stands.holds;
}

-- so it does where another is written
pub stands_apart : (table : Place → Table) (place : Place) (same : (table place).tree ≡ place.tree) (rows : List Row) (tree : ℕ) (old new : Database) → place.tree ≢ tree → WritesOnly tree old new
    → Stands table place rows old → Stands table place rows new
stands_apart table place same rows tree old new apart only stands =
    let t = table place in
    let kept : new.trees t.tree ≡ old.trees t.tree = all_has _ old.schema.tables t only.others (has_got old.schema.tables stands.listed.at t stands.listed.there) (λ e. apart (sym same ∙ e)) in
    stands_kept table place same rows old new (listed_along old.schema new.schema t only.schema stands.listed) kept stands

-- so it does where another is made, and is another
pub stands_beside : (table : Place → Table) (place : Place) (same : (table place).tree ≡ place.tree) (rows : List Row) (other : Place → Table) (rules : Rules) (given : List Row) (old new : Database)
    → (made : Creates other rules given old new) → Stands table place rows old → Stands table place rows new × (place.tree ≢ made.place.tree)
stands_beside table place same rows other rules given old new made stands =
    let kept = made.others (table place) stands.listed in
    (stands_kept table place same rows old new kept.0 kept.1 stands, λ e. kept.2 (same ∙ e))

-- a connection that was open and is
pub both_open : (a b : Bool) → IsTrue a → IsTrue b → b ≡ a
both_open true true p q = refl
both_open true false p q = absurd (cc)
both_open false b p q = absurd (cc)

-- nothing was done
pub stays_none : (P : Database → Database → Type 0) (s : State) → P s.now s.now → Stays P s s
stays_none P s p = record { shut = refl; committed = refl; mode = refl; sound = λ is. is; step = p }

-- the same statement, in a weaker word
pub stepped_as : (P Q : Database → Database → Type 0) (a b : State) → (P a.now b.now → Q a.now b.now) → HasStepped P a b → HasStepped Q a b
stepped_as P Q a b weaker p = record { inside = p.inside; shown = p.shown; sound = p.sound; step = weaker p.step }

-- what does nothing survives
pub survives_none : (s : State) (P : Trees → Type 0) → Survives s s P
survives_none s P = record { clean = omega arith; shield = λ h. h; counts = omega arith; limit = refl; closes = λ clean up. inl up; crash = λ clean db h. inl h }

-- two readings one after the other
pub rests_then : (a b c : State) → Rests a b → Rests b c → Rests a c
rests_then a b c p q up =
    let late = q up in
    let early = p late.0 in (
      early.0,
      λ settled.
          let one = early.1 settled in
          let two = late.1 (one.0 ∙ settled ∙ sym one.1) in
          (two.0 ∙ one.0, two.1 ∙ one.1),
    )

-- the tree of a listed table is below 2 ^ 16
pub low_tree : (schema : Schema) (trees : Trees) (table : Table) → IsSound schema trees → Lists schema table → nat_lt table.tree (2 ^ 31) ≡ true
low_tree schema trees table sound listed =
    let low : table.tree < 65536 = zip_low _ schema.tables table sound.lists.listed.tables (has_got schema.tables listed.at table listed.there) in
    (Decides-ltb table.tree (2 ^ 31)).1 (omega (arith, low))
  where
    zip_low : (rows : List Row) (tables : List Table) (table : Table) → AllZip IsTableRow rows tables → Has tables table → table.tree < 65536
    zip_low [] [] table zip h = absurd h
    zip_low (r ∷ rows) [] table zip h = absurd h
    zip_low [] (t ∷ tables) table zip h = absurd zip
    zip_low (r ∷ rows) (t ∷ tables) table zip (inl same) = subst (λ (it : Table). it.tree < 65536) (sym same) zip.0.described.low
    zip_low (r ∷ rows) (t ∷ tables) table zip (inr h) = zip_low rows tables table zip.1 h

-- a table that is listed is listed at one place
pub listed_once : (schema : Schema) (table : Place → Table) (p q : Place) → (table p).name ≡ (table q).name → (l : Lists schema (table p)) → (m : Lists schema (table q)) → table p ≡ table q
listed_once schema table p q named l m =
    let at : l.at ≡ m.at = let e : Some l.at ≡ Some m.at = sym l.named ∙ ap (table_named schema) named ∙ m.named in cc in
    let both : ◌≡◌ {A = Option Table} (Some (table p)) (Some (table q)) = sym l.there ∙ ap (slice_get schema.tables) at ∙ m.there in
    cc

-- the tree of a table of the product is that of its place, and its name is declared
pub listed_at_one : (table : Ours) (schema : Schema) (p q : Place) → Lists schema (table_at table p) → Lists schema (table_at table q) → p.tree ≡ q.tree
listed_at_one table schema p q l m = ap (λ (t : Table). t.tree) (listed_once schema (table_at table) p q refl l m)

-- two tables are one or two
pub decide_table : (a b : Ours) → (a ≡ b) ⊎ (a ≢ b)
decide_table a b = elim (cases_Bool (same_table a b)) [
  | inl same ↦ inl (same_table_is a b same)
  | inr other ↦ inr (λ e. absurd (let h = sym (same_table_self a) ∙ ap (same_table a) e ∙ other in cc))
]

-- what a statement that went through did, where its text is that of a write
pub stepped_by : (P : Database → Database → Type 0) (sql : List ℕ) (params : Row) (count : ℕ) (old new : State) → IsWriteText sql → (Executes sql params old new (Ok count) → P old.now new.now) → HasRun sql params count old new
    → HasStepped P old new
stepped_by P sql params count old new writes does it = record { inside = it.inside; shown = it.shown; sound = written_sound sql params old new count writes it.ran; step = does it.ran }

-- a call that did one thing did another
pub part_ok : {A B : Type 0} (P : A → State → State → Type 0) (Q : B → State → State → Type 0) (H K : Option ℕ → Database → Type 0) (x : A) (y : B) (a b : State) → (P x a b → Q y a b) → IsPart P H (Ok x) a b → IsPart Q K (Ok y) a b
part_ok P Q H K x y a b does it = record { survives = it.survives; did = λ clean. does (it.did clean); kept = it.kept; starved = λ clean inside is. absurd (cc); cause = λ inside clean is. absurd (cc) }

-- what hindered it hinders another
failed_so : {A B : Type 0} (P : A → State → State → Type 0) (Q : B → State → State → Type 0) (H K : Option ℕ → Database → Type 0) (e : TableFault) (a b : State) → ((limit : Option ℕ) (db : Database) → H limit db → K limit db) → IsPart P H (Err e) a b → IsPart Q K (Err e) a b
failed_so P Q H K e a b hinders it = record {
  survives = it.survives;
  did = λ clean. tt;
  kept = it.kept;
  starved = λ clean inside is. let same : e ≡ Memory = cc in it.starved clean inside (ap Err same);
  cause = λ inside clean is. let same : e ≡ Storage = cc in stopped_as H K a b (hinders a.step_limit a.now) (it.cause inside clean (ap Err same));
}

-- so it does where its fault is handed on
pub part_err : {A B : Type 0} (P : A → State → State → Type 0) (Q : B → State → State → Type 0) (H K : Option ℕ → Database → Type 0) (e : TableFault) (a b : State) (r : Result B TableFault) → IsErrAnd r (λ f. f ≡ e) → ((limit : Option ℕ) (db : Database) → H limit db → K limit db)
    → IsPart P H (Err e) a b → IsPart Q K r a b
part_err P Q H K e a b r is hinders it = let f = err_from_is_err_and r is in subst (λ r. IsPart Q K r a b) (sym (f.1 ∙ ap Err f.2)) (failed_so P Q H K e a b hinders it)

both_kept : (a b c : State) → (HasCleanDisk c → HasCleanDisk b) → (HasCleanDisk b → KeepsCommit a b) → (HasCleanDisk c → KeepsCommit b c) → HasCleanDisk c → KeepsCommit a c
both_kept a b c early p q clean =
    let first = p (early clean) in
    let then = q clean in
    record { was_open = λ up. first.was_open (then.was_open up); committed = λ up. then.committed up ∙ first.committed (then.was_open up) }

-- two calls that commit nothing
pub survives_both : (a b c : State) → Survives a b (λ _. ⊥) → Survives b c (λ _. ⊥) → Survives a c (λ _. ⊥)
survives_both a b c = survives_then a b c (λ _. ⊥) (λ _. ⊥) (λ _. ⊥) (λ _ db none. none) (λ _ db none. none)

-- one call after another: the first left what was committed, and the transaction open
module _ {A B : Type 0} (P : A → State → State → Type 0) (Q R : B → State → State → Type 0) (H G K : Option ℕ → Database → Type 0) (a b c : State) where
  pub part_then : (x : A) (r : Result B TableFault) → (P x a b → (b.committed ≡ a.committed) × (a.in_transaction ≡ true → b.in_transaction ≡ true)) → ((y : B) → P x a b → Q y b c → R y a c)
      → (P x a b → (limit : Option ℕ) → G limit b.now → K limit a.now) → IsPart P H (Ok x) a b → IsPart Q G r b c → IsPart R K r a c
  part_then x r keeps both hinders p q = record {
    survives = survives_both a b c p.survives q.survives;
    did = did r q.did;
    kept = both_kept a b c early p.kept q.kept;
    starved = λ clean inside is. let k = keeps (p.did (early clean)) in lacks_after a b c k.0 (q.starved clean (k.1 inside) is);
    cause = λ inside clean is.
        let done = p.did (early clean) in
        stopped_after G K a b c p.survives (early clean) q.survives.counts (hinders done a.step_limit) (q.cause ((keeps done).1 inside) clean is);
  }
    where
      early : HasCleanDisk c → HasCleanDisk b
      early clean = omega (arith, q.survives.clean)

      did : (r : Result B TableFault) → (HasCleanDisk c → IfOk r (λ y. Q y b c)) → HasCleanDisk c → IfOk r (λ y. R y a c)
      did (Ok y) then clean = both y (p.did (early clean)) (then clean)
      did (Err e) then clean = tt

-- what a statement leaves, as a run
pub stays_so : (P : Database → Database → Type 0) (a b : State) → HasStepped P a b → Stays P a b
stays_so P a b p = record { shut = both_open a.is_open b.is_open p.shown.was_open p.shown.is_open; committed = p.shown.committed_is; mode = p.shown.mode ∙ sym p.inside; sound = λ _. p.sound; step = p.step }

-- a run of statements leaves what was committed, and the transaction open
pub stays_keeps : (P : Database → Database → Type 0) (a b : State) → Stays P a b → (b.committed ≡ a.committed) × (a.in_transaction ≡ true → b.in_transaction ≡ true)
stays_keeps P a b p = (p.committed, λ inside. p.mode ∙ inside)

-- a run of statements, and then one more
pub stays_stepped : (P Q R : Database → Database → Type 0) (a b c : State) → (P a.now b.now → Q b.now c.now → R a.now c.now) → Stays P a b → HasStepped Q b c → HasStepped R a c
stays_stepped P Q R a b c both p q = record {
  inside = sym p.mode ∙ q.inside;
  shown = record {
    was_open = subst IsTrue p.shut q.shown.was_open;
    is_open = q.shown.is_open;
    now_is = refl;
    committed_is = q.shown.committed_is ∙ p.committed;
    mode = q.shown.mode;
  };
  sound = q.sound;
  step = both p.step q.step;
}

-- a statement, and then a run
pub stepped_stays : (P Q R : Database → Database → Type 0) (a b c : State) → (P a.now b.now → Q b.now c.now → R a.now c.now) → HasStepped P a b → Stays Q b c → HasStepped R a c
stepped_stays P Q R a b c both p q = record {
  inside = p.inside;
  shown = record {
    was_open = p.shown.was_open;
    is_open = subst IsTrue (sym q.shut) p.shown.is_open;
    now_is = refl;
    committed_is = q.committed ∙ p.shown.committed_is;
    mode = q.mode ∙ p.shown.mode;
  };
  sound = q.sound p.sound;
  step = both p.step q.step;
}

-- one run, and then another
pub stays_both : (P Q R : Database → Database → Type 0) (a b c : State) → (P a.now b.now → Q b.now c.now → R a.now c.now) → Stays P a b → Stays Q b c → Stays R a c
stays_both P Q R a b c both p q = record { shut = q.shut ∙ p.shut; committed = q.committed ∙ p.committed; mode = q.mode ∙ p.mode; sound = λ s. q.sound (p.sound s); step = both p.step q.step }

-- nothing was called yet
pub part_none : (P : Unit {0} → State → State → Type 0) (H : Option ℕ → Database → Type 0) (s : State) → P tt s s → IsPart P H (Ok tt) s s
part_none P H s p = record {
  survives = survives_none s (λ _. ⊥);
  did = λ clean. p;
  kept = λ clean. record { was_open = λ up. up; committed = λ up. refl };
  starved = λ clean inside is. absurd (cc);
  cause = λ inside clean is. absurd (cc);
}
