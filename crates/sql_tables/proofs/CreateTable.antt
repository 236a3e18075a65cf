-- CREATE TABLE under any schema.
use Rattle.sql_tables.proofs.Common.{cases_Bool, Schema, table_defined_by, compiled, first, timed, returning, command, small, is_reserved, is_attached, with_command, IsWrite, Command, CreateTable, Nothing, listing_schema, if_select, NoSuchTable, Misuse, Exists, Unsupported, Checked, and_then, Parsed, option_or, same_name, table_named, view_named, index_named, State, Executes, text_of, Table, IsPermutation-refl, IsPermutation, IsKeyed, Trees, created, next_tree, is_used, Database, Outcome, Tally, lacks_sequence, MakesSequence, sequence_text, CreatesTable, table_below, Has, has_got, all_has, Compiled, Place, Rules, TableShape, Lists, all_referring, cells, made_at, IsActedOn, NoAction, Reference, Creates, ◌≡◌, inl, inr, ℕ, ◌+◌, List, [], ◌∷◌, length, map, ◌≢◌, slice_get, slice_range, arith, ◌||◌, Option, Some, None, is_some, Ok, Err, Bool, true, false, refl, sym, ap, subst, ◌∙◌, if◌then◌else◌, position_from, zero, suc, ◌++◌}
use Rattle.sqlite.specs.Compile.{creates}
use Rattle.sql_tables.proofs.Quiet.{AreAllPassive, acted_before}
use Rattle.sqlite_tied.specs.Compute.{everything}
use Rattle.sql_tables.proofs.InsertKeyed.{went, same_value}
use Rattle.sql_tables.proofs.Understood.{planned_of, Means, IsWriteText, runs_by}

module _ {X : Type 0} (p : X → Bool) where
  found_go : (from : ℕ) (x : X) (xs ys : List X) (at : ℕ) (b : Bool) → p x ≡ b → ((n : ℕ) → position_from p n xs ≡ Some at → position_from p n (xs ++ ys) ≡ Some at)
      → position_from p from (x ∷ xs) ≡ Some at → position_from p from ((x ∷ xs) ++ ys) ≡ Some at
  found_go from x xs ys at true is later h = rw is (rw is at h)
  found_go from x xs ys at false is later h = rw is (later _ (rw is at h))

  -- what is found first in a list is found in a longer one
  pub still_found : (from : ℕ) (xs ys : List X) (at : ℕ) → position_from p from xs ≡ Some at → position_from p from (xs ++ ys) ≡ Some at
  still_found from [] ys at h = absurd (cc)
  still_found from (x ∷ xs) ys at h = found_go from x xs ys at (p x) refl (λ n. still_found n xs ys at) h

  new_go : (from : ℕ) (x : X) (xs : List X) (y : X) (ys : List X) (b : Bool) → p x ≡ b → ((n : ℕ) → is_some (position_from p n xs) ≡ false → position_from p n (xs ++ y ∷ ys) ≡ Some (n + length xs))
      → is_some (position_from p from (x ∷ xs)) ≡ false → position_from p from ((x ∷ xs) ++ y ∷ ys) ≡ Some (from + length (x ∷ xs))
  new_go from x xs y ys true is later h = absurd (let e = rw is at h in cc)
  new_go from x xs y ys false is later h = rw is (later (from + 1) (rw is at h) ∙ ap Some (omega arith))

  -- the first that is new is found after the others
  pub new_found : (from : ℕ) (xs : List X) (y : X) (ys : List X) → p y ≡ true → is_some (position_from p from xs) ≡ false → position_from p from (xs ++ y ∷ ys) ≡ Some (from + length xs)
  new_found from [] y ys is h = rw is (ap Some (omega arith))
  new_found from (x ∷ xs) y ys is h = new_go from x xs y ys (p x) refl (λ n. new_found n xs y ys is) h

-- what stands at a place stands there in a longer list
pub got_front : {X : Type 0} (xs ys : List X) (at : ℕ) (x : X) → slice_get xs at ≡ Some x → slice_get (xs ++ ys) at ≡ Some x
got_front [] ys at x h = absurd (cc)
got_front (y ∷ xs) ys zero x h = h
got_front (y ∷ xs) ys (suc at) x h = got_front xs ys at x h

-- after a list stands what comes next
pub got_next : {X : Type 0} (xs ys : List X) (x : X) → slice_get (xs ++ x ∷ ys) (length xs) ≡ Some x
got_next [] ys x = refl
got_next (y ∷ xs) ys x = got_next xs ys x

fresh : (a b c : Bool) (is_new : Bool) → ◌≡◌ {A = Checked Bool} (if a then Err Misuse else (if b then Err Exists else (if c then (if false then Ok false else Err Exists) else Ok true))) (Ok is_new) → is_new ≡ true
fresh true b c is_new h = absurd (cc)
fresh false true c is_new h = absurd (cc)
fresh false false true is_new h = absurd (cc)
fresh false false false is_new h = cc

only_new : (name : List ℕ) (same other : Option ℕ) (is_new : Bool) → creates false name same other ≡ Ok is_new → is_new ≡ true
unfolding creates
only_new name same other = fresh (is_reserved name) (is_some other) (is_some same)

makes : (a : Bool) (c : Checked Bool) (t : Checked Command) (k : Command) → ((is_new : Bool) → c ≡ Ok is_new → is_new ≡ true)
    → ◌≡◌ {A = Checked Command} (if a then Err Unsupported else and_then c (λ is_new. if is_new then t else Ok Nothing)) (Ok k) → t ≡ Ok k
makes true c t k only h = absurd (cc)
makes false (Err e) t k only h = absurd (cc)
makes false (Ok true) t k only h = h
makes false (Ok false) t k only h = absurd (let e = only false refl in cc)

has_listed : (schema : Schema) (t : Table) → Lists schema t → Has schema.tables t
has_listed schema t listed = has_got schema.tables listed.at t listed.there

-- what another CREATE TABLE leaves of the tables that are there
kept_by : (schema : Schema) (sql : List ℕ) (old : Trees) (after : Schema) (new : Trees) → CreatesTable schema sql old after new → (t : Table) → Lists schema t
    → Lists after t × (new t.tree ≡ old t.tree)
kept_by schema sql old after new made t listed = (
  record {
    at = listed.at;
    named = subst (λ (s : Schema). table_named s t.name ≡ Some listed.at) (sym made.is) (still_found _ 0 schema.tables _ listed.at listed.named);
    there = subst (λ (s : Schema). slice_get s.tables listed.at ≡ Some t) (sym made.is) (got_front schema.tables _ listed.at t listed.there);
  },
  all_has _ schema.tables t made.others (has_listed schema t listed),
)

-- references of the tables of the product write nothing
pub all_passive : (bare : List Bool) (links : List (ℕ × List ℕ × List ℕ)) (r : Reference) → Has (all_referring bare links) r → (r.on_delete ≡ NoAction) × (r.on_update ≡ NoAction)
all_passive bare [] r h = absurd h
all_passive [] (link ∷ links) r (inl is) = (ap (λ (it : Reference). it.on_delete) is, ap (λ (it : Reference). it.on_update) is)
all_passive [] (link ∷ links) r (inr later) = all_passive [] links r later
all_passive (b ∷ bare) (link ∷ links) r (inl is) = (ap (λ (it : Reference). it.on_delete) is, ap (λ (it : Reference). it.on_update) is)
all_passive (b ∷ bare) (link ∷ links) r (inr later) = all_passive bare links r later

-- nor does a table that is made with passive references act on one that was there
quiet_by : (schema : Schema) (table : Table) (after : Schema) → after ≡ created schema table → AreAllPassive table → (t : Table) → Lists schema t → IsActedOn after.tables t.tree → IsActedOn schema.tables t.tree
quiet_by schema table after is passive t listed acts =
    let low = table_below schema t (has_listed schema t listed) in
    acted_before schema.tables (record table { tree = next_tree schema }) t.tree passive (λ e. omega (arith, e, low)) (subst (λ (s : Schema). IsActedOn s.tables t.tree) is acts)

or_false : (a b : Bool) → (a || b) ≡ false → a ≡ false
or_false true b h = absurd (cc)
or_false false b h = refl

-- the references of a table that is defined
references_in : Checked Table → List Reference
references_in (Ok t) = t.references
references_in (Err e) = []

-- the table of sequences refers to none
sequence_alone : references_in (table_defined_by sequence_text) ≡ []
unfolding everything references_in
sequence_alone = refl

sequence_passive : (table : Table) → table_defined_by sequence_text ≡ Ok table → AreAllPassive table
unfolding references_in
sequence_passive table is r h = absurd (subst (λ (rs : List Reference). Has rs r) (sym (ap references_in is) ∙ sequence_alone) h)

-- a text that makes a table of this shape by these rules, under any schema
pub record IsCreate (sql : List ℕ) (shape : TableShape) (rules : Rules) : Type 0 where
  pub p : Parsed
  pub parsed : first sql ≡ Ok p
  pub unlisted : if_select (compiled listing_schema sql) ≡ Err NoSuchTable
  pub untimed : (schema : Schema) → timed schema p.formats p.statement ≡ []
  pub shows : (schema : Schema) → returning schema (small p.names + small []) p.statement ≡ Ok None
  pub commands : (schema : Schema) (k : Command) → command schema p.formats (small p.names + small []) p.statement ≡ Ok k → k ≡ CreateTable
  pub whole : slice_range sql p.start p.end ≡ sql
  pub defined : table_defined_by sql ≡ Ok (made_at shape (record { tree = 0; rules = rules }))
  pub named : same_name shape.name shape.name ≡ true

-- what is left of a CREATE whose name is free
pub made_command : (schema : Schema) (name : List ℕ) (k : Command) → ◌≡◌ {A = Checked Command} (if is_attached schema name then Err Unsupported else and_then (creates false name (option_or (table_named schema name) (view_named schema name)) (index_named schema name)) (λ is_new. if is_new then Ok CreateTable else Ok Nothing)) (Ok k) → k ≡ CreateTable
made_command schema name k h =
    let same = option_or (table_named schema name) (view_named schema name) in
    let other = index_named schema name in
    let t = makes (is_attached schema name) (creates false name same other) (Ok CreateTable) k (only_new name same other) h in
    cc

module _ (sql : List ℕ) (shape : TableShape) (rules : Rules) (it : IsCreate sql shape rules) where
  abbrev first_made : Table
  first_made = made_at shape (record { tree = 0; rules = rules })

  abbrev here : Schema → Place
  here schema = record { tree = next_tree schema; rules = rules }

  pub create_means : (schema : Schema) → Means schema sql CreateTable sql
  create_means schema c h =
      let p = planned_of schema sql it.p c it.unlisted it.parsed h in
      let q = rw (it.untimed schema) at p in
      let k : q.1 ≡ CreateTable = it.commands schema q.1 q.3 in
      let none : q.0 ≡ None = let e : Ok q.0 ≡ Ok None = sym q.2 ∙ it.shows schema in cc in
      let is : c ≡ with_command it.p ([], (CreateTable, None)) = q.4 ∙ (λ i. with_command it.p ([], (k i, none i))) in
      (ap (λ (it : Compiled). it.command) is, ap (λ (it : Compiled). it.returning) is, ap (λ (it : Compiled). it.formats) is, ap (text_of sql) is ∙ it.whole)

  -- the text is that of a write
  pub create_writes : IsWriteText sql
  create_writes schema c h = subst IsWrite (sym (create_means schema c h).0) tt

  -- the same, of the schema and the trees alone
  record IsMade (old new : Database) : Type 0 where
    place : Place
    ruled : place.rules ≡ rules
    listed : Lists new.schema (made_at shape place)
    empty : new.trees place.tree ≡ []
    others : (t : Table) → Lists old.schema t → Lists new.schema t × (new.trees t.tree ≡ old.trees t.tree) × (t.tree ≢ place.tree)
    quiet : (t : Table) → Lists old.schema t → IsActedOn new.schema.tables t.tree → IsActedOn old.schema.tables t.tree

  made_first : (db mid : Database) → CreatesTable db.schema sql db.trees mid.schema mid.trees → IsMade db mid
  made_first db mid made =
      let same : made.table ≡ first_made = let both : Ok made.table ≡ Ok (first_made) = sym made.defined ∙ it.defined in cc in
      let tree = next_tree db.schema in
      let is : mid.schema ≡ created db.schema (first_made) = made.is ∙ ap (created db.schema) same in
      let free : is_some (table_named db.schema shape.name) ≡ false =
      or_false _ _ (or_false _ _ (subst (λ (t : Table). is_used db.schema t.name ≡ false) same made.free)) in
      record {
        place = here db.schema;
        ruled = refl;
        listed = record {
          at = length db.schema.tables;
          named = subst (λ (s : Schema). table_named s shape.name ≡ Some (length db.schema.tables)) (sym is)
              (new_found (λ (t : Table). same_name t.name shape.name) 0 db.schema.tables (made_at shape (here db.schema)) [] it.named free ∙ ap Some (omega arith));
          there = subst (λ (s : Schema). slice_get s.tables (length db.schema.tables) ≡ Some (made_at shape (here db.schema))) (sym is) (got_next db.schema.tables [] (made_at shape (here db.schema)));
        };
        empty = made.empty;
        others = λ t listed.
            let kept = kept_by db.schema sql db.trees mid.schema mid.trees made t listed in
            (kept.0, kept.1, λ e. let low = table_below db.schema t (has_listed db.schema t listed) in omega (arith, e));
        quiet = quiet_by db.schema first_made mid.schema is (all_passive rules.bare shape.links);
      }

  went_on : (db mid after : Database) → IsMade db mid → MakesSequence mid (Ok after) → IsMade db after
  went_on db mid after made next = elim (cases_Bool (lacks_sequence mid.schema)) [
    | inl lacks ↦
        let more : CreatesTable mid.schema sequence_text mid.trees after.schema after.trees = rw lacks at next in
        record {
          place = made.place;
          ruled = made.ruled;
          listed = (kept_by mid.schema sequence_text mid.trees after.schema after.trees more _ made.listed).0;
          empty = (kept_by mid.schema sequence_text mid.trees after.schema after.trees more _ made.listed).1 ∙ made.empty;
          others = λ t listed.
              let was = made.others t listed in
              let kept = kept_by mid.schema sequence_text mid.trees after.schema after.trees more t was.0 in
              (kept.0, kept.1 ∙ was.1, was.2);
          quiet = λ t listed acts. made.quiet t listed (quiet_by mid.schema more.table after.schema more.is (sequence_passive more.table more.defined) t (made.others t listed).0 acts);
        }
    | inr none ↦
        let same : after ≡ mid = let e : ◌≡◌ {A = Outcome Database} (Ok after) (Ok mid) = rw none at next in cc in
        subst (IsMade db) (sym same) made
  ]

  -- a CREATE that went through made the table, which is empty
  pub create_makes : (old new : State) (count : ℕ) → Executes sql [] old new (Ok count) → Creates (made_at shape) rules [] old.now new.now
  create_makes old new count ran =
      let w = runs_by sql [] old new count CreateTable sql (create_means old.now.schema) ran in
      let all = went w.changed in
      let first = went all.1 in
      let now : new.now ≡ all.0 = ap (λ (p : Tally × Database). p.1) (same_value all.2) in
      let made : IsMade old.now new.now = subst (IsMade old.now) (sym now) (went_on old.now first.0 all.0 (made_first old.now first.0 first.1) first.2) in
      record {
        place = made.place;
        ruled = made.ruled;
        stands = record {
          listed = made.listed;
          keyed = subst IsKeyed (sym made.empty) (record { ids = tt; apart = tt });
          holds = subst (λ all. IsPermutation [] (map (cells (made_at shape made.place)) all)) (sym made.empty) (IsPermutation-refl _);
        };
        others = made.others;
        quiet = made.quiet;
      }
