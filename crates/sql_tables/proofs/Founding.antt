-- A database of ours in which tables of ours are made is one of ours still.
use Rattle.sql_tables.proofs.Common.{AllByRecursion, list_any, and_left, or_from, Int, Row, rowid, IsAscending, Has, has_either, all_has, table_below, created, next_tree, AnyTable, Schema, Database, IsDatabase, Ours, Place, made_here, table_at, IsTableMade, ◌≡◌, ◌⊎◌, inl, inr, ℕ, suc, ◌+◌, ◌<◌, ◌^◌, pos, List, [], ◌∷◌, ◌++◌, slice_get, Some, false, refl, sym, ap, subst, ◌∙◌, arith, list_any-append, IsTable, KeepsRows, automatics, IsIndexRow, automatic, Index, HasRoom, IsOurs, IsOwnIndex}
use Rattle.sqlite_catalog.proofs.LayoutLemmas.{index_owner, zipped_left}
use Rattle.sqlite_catalog.proofs.ListFacts.{ascending_push}
use Rattle.sql_tables.proofs.Ours.{along}
use Rattle.sql_tables.proofs.References.{same_named}

-- a database of ours that counts no rowids
pub record IsFounding (db : Database) : Type 0 where
  pub sound : IsDatabase db
  pub ours : IsOurs db
  pub uncounted : list_any (λ (t : AnyTable). t.is_counted) db.schema.tables ≡ false

-- so it is where there is no table
pub founding : (db : Database) → IsDatabase db → db.schema.tables ≡ [] → IsFounding db
founding db sound none =
    let absent : (t : AnyTable) → Has db.schema.tables t → ⊥ = λ t l. subst (λ (all : List AnyTable). Has all t) none l in
    record {
      sound = sound;
      ours = record {
        made = λ t at l. absurd (absent _ l);
        own = λ t at i l has of. absurd (absent _ l);
        apart = subst (λ (all : List AnyTable). IsAscending (λ a b. a.tree ≡ b.tree → ⊥) all) (sym none) tt;
        referred = λ t ref other l of named. absurd (absent t l);
        numbered = λ t at l. absurd (absent _ l);
        rise = λ t at l. absurd (absent _ l);
      };
      uncounted = ap (list_any (λ (t : AnyTable). t.is_counted)) none;
    }

-- a table of ours that is the one made at this tree is made so
is_made : (a b : Ours) (place : Place) (tree : ℕ) → table_at a place ≡ made_here b tree → table_at a place ≡ made_here a place.tree
is_made a b place tree is =
    let same : a ≡ b = same_named a b (ap (λ (t : AnyTable). t.name) is) in
    is ∙ (λ i. made_here (sym same i) (ap (λ (t : AnyTable). t.tree) (sym is) i))

-- each automatic index is made for a key
own_index : (table : AnyTable) (at tree : ℕ) (keys : List (List ℕ)) (i : Index) → Has (automatics table at tree keys) i
    → (k : ℕ) × (key : List ℕ) × (slice_get keys k ≡ Some key) × ((n : ℕ) → n ≡ at + k → i ≡ automatic table n key i.tree)
own_index table at tree [] i h = absurd h
own_index table at tree (key ∷ keys) i (inl is) =
    (0, key, refl, λ n e. let same : at ≡ n = omega (arith, e) in is ∙ (λ j. automatic table (same j) key (ap (λ (i : Index). i.tree) (sym is) j)))
own_index table at tree (key ∷ keys) i (inr h) =
    let it = own_index table (at + 1) (tree + 1) keys i h in (suc it.0, it.1, it.2, λ n e. it.3 n (omega (arith, e)))

module _ (db now : Database) (it : IsFounding db) (table : Ours) (made : IsTableMade (made_here table 0) db now) where
  abbrev tables : List AnyTable
  tables = db.schema.tables

  abbrev tree : ℕ
  tree = next_tree db.schema

  abbrev more : AnyTable
  more = made_here table tree

  abbrev after : Schema
  after = created db.schema (made_here table 0)

  uncounted : list_any (λ (t : AnyTable). t.is_counted) (tables ++ more ∷ []) ≡ false
  uncounted = list_any-append (λ (t : AnyTable). t.is_counted) tables (more ∷ []) ∙ or_from _ _ it.uncounted refl

  -- each table was there, or is the one that was made
  was_or_is : (t : AnyTable) → Has (tables ++ more ∷ []) t → Has tables t ⊎ (t ≡ more)
  was_or_is t l = elim (has_either tables (more ∷ []) t l) [ inl old ↦ inl old | inr new ↦ elim new [ inl is ↦ inr is | inr none ↦ absurd none ] ]

  -- an index that was there is that of a table that was
  owner : (i : Index) → Has db.schema.indexes i → i.table < tree
  owner i h =
      let row = (zipped_left (IsIndexRow tables) _ db.schema.indexes i it.sound.lists.listed.indexes h).2 in
      omega (arith, index_owner row.table i _ row.defined, table_below db.schema row.table row.listed)

  own : (t : Ours) (at : Place) (i : Index) → Has tables (table_at t at) ⊎ (table_at t at ≡ more)
      → Has db.schema.indexes i ⊎ Has (automatics more 0 (tree + 1) more.uniques) i → i.table ≡ at.tree → IsOwnIndex (made_here t at.tree) i
  own t at i (inl old) (inl was) of = it.ours.own t at i old was of
  own t at i (inr new) (inl was) of = absurd (omega (arith, owner i was, of, ap (λ (t : AnyTable). t.tree) new))
  own t at i first (inr auto) of =
      let one = own_index more 0 (tree + 1) more.uniques i auto in
      let mine : i ≡ automatic more one.0 one.1 i.tree = one.3 one.0 (omega arith) in
      elim first [
        | inl old ↦ absurd (omega (arith, table_below db.schema (table_at t at) old, of, ap (λ (i : Index). i.table) mine))
        | inr new ↦ subst (λ u. IsOwnIndex u i) (sym new ∙ is_made t table at tree new) (one.0, one.1, one.2, mine)
      ]

  module _ (same : now.schema ≡ after) (empty : now.trees tree ≡ []) (kept : KeepsRows tables db.trees now.trees) where
    each : (P : List Row → Type 0) → P [] → ((t : Ours) (at : Place) → Has tables (table_at t at) → P (db.trees at.tree))
        → (t : Ours) (at : Place) → Has (tables ++ more ∷ []) (table_at t at) → P (now.trees at.tree)
    each P none was t at l = elim (was_or_is (table_at t at) l) [
      | inl old ↦ subst P (sym (all_has _ tables (table_at t at) kept old)) (was t at old)
      | inr new ↦ subst P (sym (ap (λ (t : AnyTable). now.trees t.tree) new ∙ empty)) none
    ]

    stays : IsOurs now
    stays = along IsOurs after now same (record {
      made = λ t at l. elim (was_or_is (table_at t at) l) [ inl old ↦ it.ours.made t at old | inr new ↦ is_made t table at tree new ];
      own = λ t at i l has of. own t at i (was_or_is (table_at t at) l) (has_either db.schema.indexes _ i has) of;
      apart = ascending_push (λ a b. a.tree ≡ b.tree → ⊥) tables more it.ours.apart (λ t h e. omega (arith, table_below db.schema t h, e));
      referred = λ t ref other l of named. elim (was_or_is t l) [
        | inl old ↦ it.ours.referred t ref other old of named
        | inr new ↦ (table, new ∙ ap (λ (t : AnyTable). made_here table t.tree) (sym new))
      ];
      numbered = each (AllByRecursion (λ r. (n : ℕ) × (rowid r ≡ Int (pos n)))) tt it.ours.numbered;
      rise = each IsTable tt it.ours.rise;
    })

    has_room : (count : ℕ) → HasRoom count db → HasRoom count now
    has_room count room = along (HasRoom count) after now same (each (AllByRecursion (λ r. (n : ℕ) → rowid r ≡ Int (pos n) → n + count < 2 ^ 63)) tt room)

  -- and where one more was made, which takes no rowid
  pub founded : IsFounding now × ((count : ℕ) → HasRoom count db → HasRoom count now)
  founded =
      let so = made (and_left _ _ uncounted) in (
        record {
          sound = so.0;
          ours = stays so.1 so.2 so.3;
          uncounted = ap (λ (s : Schema). list_any (λ (t : AnyTable). t.is_counted) s.tables) so.1 ∙ uncounted;
        },
        has_room so.1 so.2 so.3,
      )
