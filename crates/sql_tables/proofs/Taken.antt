-- A row that comes into a table of ours, in the place of its predecessor or as one more, is refused for nothing, where it suits the table:
-- it shares no key, and names rows that are there. Nor is it refused that lists or placements go.
use Rattle.sql_tables.proofs.Common.{◌≡◌, ◌⊎◌, inl, inr, ℕ, ℤ, ◌≤◌, suc, zero, List, [], ◌∷◌, ◌&&◌, not, drop, length, nat_lt, slice_get, slice_index_or, Some, true, false, Equal, refl, sym, ap, subst, ◌∙◌, true≢false, AllByRecursion, list_any, Equal-is, is_ne, and_from, and_parts, and_right, both_ways, cases_Bool, or_cases, false_from_ne_true, not_from_false, not-true, Decides-eqb, tied_itself, Null, Int, Row, value_cmp, AnyTable, has_rowid, rowid, without_rowid, Edit, IsOversized, is_taken, left_by, Database, IsDatabase, fits_i64, from_truth, is_true, plain, value_cmp_total, Index, Reference, ParentKey, agree, clashes, differ, guards, has_parent, passes_checks, Has, is_present, is_typed, all_has, has_filtered, has_got, has_kept, some_has, test_from, tied_same, Ours as Table, IsRefusedIn, IsOurs, Lists, ascending, laid_out, made_here, rules_of, shape_of}
use Rattle.sqlite_sql.specs.Ops.{binary}
use Rattle.sqlite_rules.proofs.KeyLemmas.{agree_chain}
use Rattle.sql_tables.proofs.Edits.{AreReplaced, after, now_has, suits}
use Rattle.sql_tables.proofs.References.{IsParent, is_parent, keys_fit, link, linked, links_of, refers_here, to_parents}
use Rattle.sql_tables.proofs.Sized.{IsSmall, fits_in, length_stored, small_stored}

-- the row as it is stored under this rowid
abbrev pub stored : Table → ℤ → Row → Row
stored table id given = Int id ∷ drop 1 (laid_out Null (shape_of table).key given)

-- under no key of the table one of these agrees with this one
abbrev pub IsUnshared : Table → List Row → Row → Type 0
IsUnshared table rows new =
    (at : ℕ) (key : List ℕ) → slice_get (shape_of table).uniques at ≡ Some key → (r : Row) → Has rows r → agree plain key r key new ≡ false

differ_self : (id : ℤ) → differ (Int id) (Int id) ≡ false
unfolding binary
differ_self id = ap (λ o. is_true (from_truth (Some (is_ne o)))) (tied_itself value_cmp_total (Int id))

-- the orders of the keys are plain
order_at : (count at : ℕ) → slice_index_or (ascending count) at plain ≡ plain
order_at zero at = refl
order_at (suc count) zero = refl
order_at (suc count) (suc at) = order_at count at

module _ (db : Database) (sound : IsDatabase db) (ours : IsOurs db) (trees : Table → ℕ)
    (parents : (table : Table) → IsParent table → Lists db.schema (made_here table (trees table)))
    (table : Table) (listed : Lists db.schema (made_here table (trees table))) where
  abbrev tree : ℕ
  tree = trees table

  abbrev mine : AnyTable
  mine = made_here table tree

  abbrev here : List Row
  here = db.trees tree

  there : Has db.schema.tables mine
  there = has_got db.schema.tables listed.at mine listed.there

  -- a column of the row names a row of a table
  abbrev pub IsNamedBy : Row → ℕ × Table → Type 0
  IsNamedBy new l = (p : Row) × Has (db.trees (trees l.1)) p × (agree plain (shape_of l.1).primary p (l.0 ∷ []) new ≡ true)

  -- the row has values of its columns' kinds, which pass the CHECK rules and are short, and names rows that are there
  pub record IsGood (given : Row) (id : ℤ) : Type 0 where
    pub typed : is_typed mine (stored table id given) ≡ true
    pub present : is_present mine (stored table id given) ≡ true
    pub checked : passes_checks mine (stored table id given) ≡ true
    pub small : AllByRecursion IsSmall given
    pub some : 1 ≤ length given
    pub few : length given ≤ 4
    pub names : AllByRecursion (IsNamedBy (stored table id given)) (links_of table)
    pub fits : fits_i64 id ≡ true

  -- ---- a row that comes

  module _ (given : Row) (id : ℤ) (good : IsGood given id) where
    abbrev new : Row
    new = stored table id given

    abbrev edit : List ℤ → Edit
    edit gone = record { table = mine; gone = gone; news = new ∷ [] }

    abbrev kept : List ℤ → List Row
    kept gone = left_by db.trees (edit gone)

    one_new : (gone : List ℤ) (r : Row) → Has (after db (edit gone) tree) r → (r ≡ new) ⊎ Has (kept gone) r
    one_new gone r h = elim (now_has db (edit gone) r h) [ inl is ↦ elim is [ inl one ↦ inl one | inr none ↦ absurd none ] | inr left ↦ inr left ]

    no_clash : (gone : List ℤ) → IsUnshared table (kept gone) new → (i : Index) → Has db.schema.indexes i
        → (guards i mine && list_any (clashes i.order i.columns (after db (edit gone) tree)) (new ∷ [])) ≡ true → ⊥
    no_clash gone unshared i has both =
        let parts = and_parts _ _ both in
        let own = ours.own table (record { tree = tree; rules = rules_of table }) i there has ((Decides-eqb i.table tree).0 (and_parts _ _ parts.0).1) in
        let clash : clashes i.order i.columns (after db (edit gone) tree) new ≡ true =
        elim (or_cases _ _ parts.1) [ inl is ↦ is | inr none ↦ absurd (true≢false (sym none)) ] in
        let other = some_has (λ o. agree i.order i.columns o i.columns new && differ (rowid o) (Int id)) (after db (edit gone) tree) clash in
        let is_so = and_parts _ _ other.2 in
        elim (one_new gone other.0 other.1) [
          | inl one ↦ both_ways _ (differ_self id) (subst (λ r. differ (rowid r) (Int id) ≡ true) one is_so.1)
          | inr left ↦ both_ways _ (unshared own.0 own.1 own.2 other.0 left)
              (subst (λ o. agree o own.1 other.0 own.1 new ≡ true) (order_at (length (shape_of table).uniques) own.0)
              (subst (λ (i : Index). agree i.order i.columns other.0 i.columns new ≡ true) own.3 is_so.0))
        ]

    named : (ref : Reference) (row : Row) → Has mine.references ref → Has (new ∷ []) row → has_parent db.schema.tables db.trees row ref ≡ true
    named ref row of (inr none) = absurd none
    named ref row of (inl is) =
        let l = linked table tree ref of in
        let p = all_has (IsNamedBy new) (links_of table) l.0 good.names l.1 in
        subst (λ r. has_parent db.schema.tables db.trees row r ≡ true) (sym l.2) (subst (λ r. has_parent db.schema.tables db.trees r (link l.0) ≡ true) (sym is)
        (is_parent db sound ours trees parents l.0.0 l.0.1 (to_parents table l.0 l.1) new p.0 p.1 p.2))

    taken : (gone : List ℤ) (olds : List Row) → is_taken (kept gone) new ≡ false → IsUnshared table (kept gone) new
        → ((r : Row) → Has here r → Has (kept gone) r ⊎ Has olds r) → AreReplaced db (edit gone) olds → IsRefusedIn db (edit gone) → ⊥
    taken gone olds free unshared split replaced h = elim (suits db (edit gone) olds (record {
      obeys = sound.obeys;
      apart = ours.apart;
      listed = there;
      alone = record { typed = and_from _ _ good.typed refl; present = and_from _ _ good.present refl; checked = and_from _ _ good.checked refl };
      keyed = refl;
      fresh = and_from _ _ (not_from_false _ free) refl;
      keys = keys_fit db sound ours trees parents table tree true (nat_lt 0 (length gone));
      unshared = test_from _ db.schema.indexes (λ i has. not_from_false _ (false_from_ne_true _ (no_clash gone unshared i has)));
      split = split;
      parents = named;
      replaced = replaced;
    }) h) [
      | inl large ↦ both_ways _ large (and_from _ _ good.fits refl)
      | inr big ↦ elim big.1 [
        | inl is ↦
            let counts = length_stored (shape_of table).key given (Int id) good.some good.few in
            fits_in db table tree new ours there (small_stored (shape_of table).key given (Int id) tt good.small) counts.0 counts.1
            (subst (λ r. IsOversized db.schema mine r) is big.2)
        | inr none ↦ absurd none
      ]
    ]

    -- as one more
    pub one_more : is_taken here new ≡ false → IsUnshared table here new → IsRefusedIn db (edit []) → ⊥
    one_more free unshared = taken [] [] free unshared (λ r h. inl h) (λ t ref key known of is same old row none. absurd none)

    -- in the place of another with its rowid, which is named as it is
    pub in_place : (old : Row) → Has here old → rowid old ≡ Int id → agree plain (shape_of table).primary new (shape_of table).primary old ≡ true
        → IsUnshared table (without_rowid id here) new → IsRefusedIn db (edit (id ∷ [])) → ⊥
    in_place old among is named_so unshared = taken (id ∷ []) (old ∷ []) free unshared splits stands_for
      where
        free : is_taken (without_rowid id here) new ≡ false
        free = false_from_ne_true _ (λ taken.
            let it = some_has (has_rowid id) (without_rowid id here) taken in
            both_ways _ (not-true _ (has_filtered (λ r. not (has_rowid id r)) here it.0 it.1).1) it.2)

        splits : (r : Row) → Has here r → Has (without_rowid id here) r ⊎ Has (old ∷ []) r
        splits r h = elim (cases_Bool (has_rowid id r)) [
          | inl one ↦
              let tied : value_cmp (rowid r) (rowid old) ≡ Equal = ap (value_cmp (rowid r)) is ∙ (Equal-is (value_cmp (rowid r) (Int id))).0 one in
              inr (inl (tied_same here r old (ours.rise table (record { tree = tree; rules = rules_of table }) there) h among tied))
          | inr other ↦ inl (has_kept (λ r. not (has_rowid id r)) here r h (ap not other))
        ]

        stands_for : AreReplaced db (edit (id ∷ [])) (old ∷ [])
        stands_for u ref key known of at same o row (inr none) agrees = absurd none
        stands_for u ref key known of at same o row (inl one) agrees =
            let own = refers_here db sound ours trees parents table tree there u ref key known of at same in
            let again = subst (λ (k : ParentKey). agree k.2 k.1 new k.1 old ≡ true) (sym own.1) named_so in
            (new, inl refl, agree_chain key.2 key.1 key.1 ref.columns new old row again (subst (λ r. agree key.2 key.1 r ref.columns row ≡ true) one agrees))

  -- ---- rows that go

  abbrev loss : List ℤ → Edit
  loss gone = record { table = mine; gone = gone; news = [] }

  fewer : (gone : List ℤ) (olds : List Row) → ((r : Row) → Has here r → Has (left_by db.trees (loss gone)) r ⊎ Has olds r)
      → AreReplaced db (loss gone) olds → IsRefusedIn db (loss gone) → ⊥
  fewer gone olds split replaced h = elim (suits db (loss gone) olds (record {
    obeys = sound.obeys;
    apart = ours.apart;
    listed = there;
    alone = record { typed = refl; present = refl; checked = refl };
    keyed = refl;
    fresh = refl;
    keys = keys_fit db sound ours trees parents table tree false (nat_lt 0 (length gone));
    unshared = test_from _ db.schema.indexes (λ i has. not_from_false _ (and_right (guards i mine) _ refl));
    split = split;
    parents = λ ref row of none. absurd none;
    replaced = replaced;
  }) h) [ inl bad ↦ absurd (cc) | inr big ↦ big.1 ]

  -- no row
  pub none_goes : IsRefusedIn db (loss []) → ⊥
  none_goes = fewer [] [] (λ r h. inl h) (λ u ref key known of is same o row none. absurd none)

  -- rows of a table whose rows nobody names
  pub some_go : (IsParent table → ⊥) → (gone : List ℤ) → IsRefusedIn db (loss gone) → ⊥
  some_go unnamed gone = fewer gone here (λ r h. inr h) (λ u ref key known of is same o row among agrees.
      absurd (unnamed (refers_here db sound ours trees parents table tree there u ref key known of is same).0))
