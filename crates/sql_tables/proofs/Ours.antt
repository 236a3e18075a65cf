-- A database of ours stays ours: the next rowid is free, edits leave numbers that rise, and no foreign key acts on a table.
use Rattle.std.proofs.Common.{is_eq}
use Rattle.sql_tables.proofs.Common.{AllByRecursion, IsPermutation, Decides-eqb, Decides-ltb, Null, Int, Value, Row, value_cmp, value_cmp-Int, value_cmp_total, rowid, IsAscending, put_row, without_rowid, put_all, without_all, is_taken, id_in, with_rowid, Chosen, Has, all_from, all_has, has_got, all-filter, ascending-filter, same_name, AnyTable, Schema, Database, Ours, Place, Lists, laid_out, shape_of, table_at, IsActedOn, IsInert, IsMade, OfEntry, OfLeaving, adding, changing, replacing, Stands, begins_with, goes_on, cells, Group, shared_by, ◌≡◌, inl, inr, ℕ, suc, ◌+◌, ◌<◌, ◌≤◌, ◌^◌, ◌==◌, ℤ, pos, ◌+ℤ◌, int_cmp, fold, List, [], ◌∷◌, find, filter, map, Option, Some, None, Bool, true, false, Less, refl, sym, ap, subst, ◌∙◌, arith, ⊤, cases_eq, ne_eqb, next_rowid, column, IsTable, all_map, all_weaker, any_from_none, has_filtered, fits_i64, HasRoom, IsOurs, Entering, InPlace, New}
use Rattle.sqlite_rules.proofs.RuleLemmas.{same_table}
use Rattle.sqlite_trees.proofs.TreeLemmas.{IsTable-put_row, all-put_row}
use Rattle.sql_tables.proofs.CreateTable.{all_passive}
use Rattle.sql_tables.proofs.Quiet.{inert_so}
use Rattle.sql_tables.proofs.Rowids.{permuted_has}

abbrev pub IsNumber : Value → Type 0
IsNumber v = (n : ℕ) × (v ≡ Int (pos n))

-- this many rowids more have 64 bits
abbrev HasMore : ℕ → Value → Type 0
HasMore count v = (n : ℕ) → v ≡ Int (pos n) → n + count < 2 ^ 63

-- the next rowid is above all others: by one above the last, or 1
record IsNext (rows : List Row) (id : ℤ) : Type 0 where
  number : IsNumber (Int id)
  above : AllByRecursion (λ r. value_cmp (rowid r) (Int id) ≡ Less) rows
  more : (count : ℕ) → 1 + count < 2 ^ 63 → AllByRecursion (λ r. HasMore (suc count) (rowid r)) rows → HasMore count (Int id)

one_up : (m : ℕ) → value_cmp (Int (pos m)) (Int (pos (m + 1))) ≡ Less
one_up m = let e : int_cmp (pos m) (pos (m + 1)) ≡ Less = grind arith in value_cmp-Int (pos m) (pos (m + 1)) ∙ e

last : (r : Row) (rows : List Row) → IsNumber (rowid r) → AllByRecursion (λ r. IsNumber (rowid r)) rows → IsTable (r ∷ rows)
    → IsNext (r ∷ rows) (fold (λ _ r. id_in (rowid r) +ℤ pos 1) (id_in (rowid r) +ℤ pos 1) rows)
last r [] (m, is) ids up = subst (IsNext (r ∷ [])) (sym (ap (λ v. id_in v +ℤ pos 1) is)) (record {
  number = (m + 1, refl);
  above = (ap (λ v. value_cmp v (Int (pos (m + 1)))) is ∙ one_up m, tt);
  more = λ count low all n same. let e : m + 1 ≡ n = cc in omega (arith, e, all.0 m is);
})
last r (s ∷ rows) id ids up =
    let it = last s rows ids.0 ids.1 up.1 in
    record { number = it.number; above = (value_cmp_total.trans _ _ _ up.0.0 it.above.0, it.above); more = λ count low all. it.more count low all.1 }

next : (rows : List Row) → AllByRecursion (λ r. IsNumber (rowid r)) rows → IsTable rows → IsNext rows (next_rowid rows)
next [] ids up = record { number = (1, refl); above = tt; more = λ count low all n same. let e : 1 ≡ n = cc in omega (arith, e, low) }
next (r ∷ rows) ids up = last r rows ids.0 ids.1 up

-- what holds of the rows and of the new ones holds of what is left of them
edit_keeps : (Q : Row → Type 0) (gone : List ℤ) (news rows : List Row) → AllByRecursion Q news → AllByRecursion Q rows × IsTable rows
    → AllByRecursion Q (put_all (without_all rows gone) news) × IsTable (put_all (without_all rows gone) news)
edit_keeps Q (id ∷ gone) news rows new it = edit_keeps Q gone news (without_rowid id rows) new (all-filter Q _ rows it.0, ascending-filter _ _ rows it.1)
edit_keeps Q [] [] rows new it = it
edit_keeps Q [] (n ∷ news) rows new it = edit_keeps Q [] news (put_row n rows) new.1 (all-put_row Q n rows new.0 it.0, IsTable-put_row n rows it.1)

-- what holds of these trees under this schema holds of a database that has it
pub along : (P : Database → Type 0) (schema : Schema) (now : Database) → now.schema ≡ schema → P (record { schema = schema; trees = now.trees }) → P now
along P schema now same = subst P (λ i. record { schema = sym same i; trees = now.trees })

-- the row has the rowid of one of these
abbrev pub HasIdOf : List Row → Row → Type 0
HasIdOf found r = (old : Row) × Has found old × (rowid r ≡ rowid old)

-- one that takes the place of another has its
pub replaced : (table : AnyTable) (given : Row) (found : List Row) → AllByRecursion (HasIdOf found) (map (replacing table given) found)
replaced table given found = all_map _ (replacing table given) found (all_from _ found (λ r h. (r, h, refl)))

-- what an INSERT is given: where the rowid is the key, that is a number,
abbrev pub IsGiven : Option ℕ → Row → Type 0
IsGiven None given = ⊤
IsGiven (Some key) given = IsNumber (column given 0)

-- of 32 bits
abbrev pub IsLow : Option ℕ → Row → Type 0
IsLow None given = ⊤
IsLow (Some key) given = (n : ℕ) → column given 0 ≡ Int (pos n) → n < 2 ^ 32

first_in : (tables : List AnyTable) (t : AnyTable) → IsAscending (λ a b. a.tree ≡ b.tree → ⊥) tables → Has tables t
    → find (λ (o : AnyTable). o.tree == t.tree) tables ≡ Some t
first_in [] t apart h = absurd h
first_in (x ∷ tables) t apart (inl is) = rw (is, (Decides-eqb x.tree x.tree).1 refl)
first_in (x ∷ tables) t apart (inr later) = rw (ne_eqb x.tree t.tree (all_has _ tables t apart.0 later)) (first_in tables t apart.1 later)

module _ (db : Database) (ours : IsOurs db) (table : Ours) (place : Place) (listed : Lists db.schema (table_at table place)) where
  abbrev rows : List Row
  rows = db.trees place.tree

  there : Has db.schema.tables (table_at table place)
  there = has_got db.schema.tables listed.at (table_at table place) listed.there

  chosen : IsNext rows (next_rowid rows)
  chosen = next rows (ours.numbered table place there) (ours.rise table place there)

  -- a rowid that is chosen is free, and a number
  pub free : (given : Row)
      → let new = with_rowid Chosen rows (laid_out Null None given) in (is_taken rows new ≡ false) × ((n : ℕ) × (rowid new ≡ Int (pos n)))
  free given = (any_from_none _ rows (all_weaker _ _ (λ r h. ap is_eq h) rows chosen.above), chosen.number)

  -- it fits where there is room
  pub fits : HasRoom 1 db → (given : Row) → fits_i64 (id_in (rowid (with_rowid Chosen rows (laid_out Null None given)))) ≡ true
  fits room given =
      let number = chosen.number in
      let low = chosen.more 0 (omega arith) (room table place there) number.0 number.1 in
      ap (λ v. fits_i64 (id_in v)) number.1 ∙ (Decides-ltb number.0 (2 ^ 63)).1 (omega (arith, low))

  -- the rowid of a new row is a number, and leaves room
  added : (key : Option ℕ) (given : Row) → IsGiven key given
      → let v = rowid (with_rowid Chosen rows (laid_out Null key given)) in
      IsNumber v × (IsLow key given → (count : ℕ) → count ≤ 2 ^ 62 → HasRoom (suc count) db → HasMore count v)
  added None given is = (chosen.number, λ low count few room. chosen.more count (omega arith) (room table place there))
  added (Some key) [] (n, is) = absurd (cc)
  added (Some key) (first ∷ given) (n, is) = rw is ((n, refl), λ below count few room m same. let e : n ≡ m = cc in let low = below n refl in omega (arith, e, low, few))

  less_room : (count : ℕ) → HasRoom (suc count) db → HasRoom count db
  less_room count room t at l = all_weaker _ _ (λ r h n e. omega (arith, h n e)) (db.trees at.tree) (room t at l)

  module _ (now : Database) (gone : List ℤ) (news : List Row) (made : IsMade db now (record { table = table_at table place; gone = gone; news = news })) where
    -- what holds of the rowids of ours and of the new ones holds after the edit
    left : (Q : Value → Type 0) → AllByRecursion (λ r. Q (rowid r)) news
        → ((t : Ours) (at : Place) → Has db.schema.tables (table_at t at) → AllByRecursion (λ r. Q (rowid r)) (db.trees at.tree))
        → (t : Ours) (at : Place) → Has db.schema.tables (table_at t at) → AllByRecursion (λ r. Q (rowid r)) (now.trees at.tree) × IsTable (now.trees at.tree)
    left Q new was t at l = elim (cases_eq at.tree place.tree) [
      | inl here ↦
          subst (λ rows. AllByRecursion (λ r. Q (rowid r)) rows × IsTable rows) (sym (ap now.trees here ∙ made.2.rows))
          (edit_keeps (λ r. Q (rowid r)) gone news rows new (was table place there, ours.rise table place there))
      | inr other ↦
          let same = all_has _ db.schema.tables (table_at t at) made.2.tables l other in
          subst (λ rows. AllByRecursion (λ r. Q (rowid r)) rows × IsTable rows) (sym same) (was t at l, ours.rise t at l)
    ]

    stays : AllByRecursion (λ r. IsNumber (rowid r)) news → IsOurs now
    stays numbers =
        let rows = left IsNumber numbers ours.numbered in
        along IsOurs db.schema now made.1 (record {
          made = ours.made;
          own = ours.own;
          apart = ours.apart;
          referred = ours.referred;
          numbered = λ t at l. (rows t at l).0;
          rise = λ t at l. (rows t at l).1;
        })

    has_room : (count : ℕ) → AllByRecursion (λ r. HasMore count (rowid r)) news → HasRoom count db → HasRoom count now
    has_room count more room = along (HasRoom count) db.schema now made.1 (λ t at l. (left (HasMore count) more room t at l).0)

  -- the database stays ours where a row comes in,
  pub stays_added : (now : Database) (given : Row) → IsGiven (shape_of table).key given → IsMade db now (adding (table_at table place) given db.trees)
      → IsOurs now × (IsLow (shape_of table).key given → (count : ℕ) → count ≤ 2 ^ 62 → HasRoom (suc count) db → HasRoom count now)
  stays_added now given is made =
      let it = added (shape_of table).key given is in (
        stays now [] _ made (it.0, tt),
        λ low count few room. has_room now [] _ made count (it.1 low count few room, tt) (less_room count room),
      )

  -- and where rows are replaced under their rowids, or go
  pub stays_changed : (now : Database) (p : Row → Bool) (found news : List Row) → IsPermutation (filter p rows) found → AllByRecursion (HasIdOf found) news
      → IsMade db now (changing (table_at table place) found news) → IsOurs now × ((count : ℕ) → HasRoom count db → HasRoom count now)
  stays_changed now p found news same olds made =
      let was : (old : Row) → Has found old → Has rows old = λ old h. (has_filtered p rows old (permuted_has _ found same old h)).0 in
      let are : (Q : Value → Type 0) → AllByRecursion (λ r. Q (rowid r)) rows → AllByRecursion (λ r. Q (rowid r)) news =
      λ Q all. all_weaker (HasIdOf found) (λ r. Q (rowid r)) (λ r h. subst Q (sym h.2) (all_has _ rows h.0 all (was h.0 h.1))) news olds in (
        stays now _ news made (are IsNumber (ours.numbered table place there)),
        λ count room. has_room now _ news made count (are (HasMore count) (room table place there)) room,
      )

  -- the table is the only one of its tree
  pub is_first_of : find (λ (t : AnyTable). t.tree == place.tree) db.schema.tables ≡ Some (table_at table place)
  is_first_of = first_in db.schema.tables (table_at table place) ours.apart there

  -- each reference to it is one of ours, with NO ACTION
  pub unacted : IsActedOn db.schema.tables place.tree → ⊥
  unacted it =
      let is : it.parent ≡ table_at table place = same_table db.schema.tables it.parent (table_at table place) ours.apart it.parent_listed there it.here in
      let child = ours.referred it.child it.reference table it.child_listed it.of_child
      (subst (λ (t : AnyTable). same_name t.name it.reference.parent ≡ true) is it.to_parent) in
      let none = all_passive [] (shape_of child.0).links it.reference (subst (λ (t : AnyTable). Has t.references it.reference) child.1 it.of_child) in
      elim it.acts [ inl deletes ↦ deletes none.0 | inr updates ↦ updates none.1 ]

  pub inert_here : IsInert db.schema place.tree
  inert_here = inert_so db.schema place.tree unacted

  -- a statement that brings a row in leaves it ours,
  pub stays_entered : (now : Database) (way : Entering) (key given : Row) → IsGiven (shape_of table).key given → (all : List Row)
      → Stands (table_at table) place all db → OfEntry way (table_at table) key given (IsMade db now) db
      → IsOurs now × (IsLow (shape_of table).key given → (count : ℕ) → count ≤ 2 ^ 62 → HasRoom (suc count) db → HasRoom count now)
  stays_entered now New key given is all stands of = stays_added now given is (of place listed)
  stays_entered now InPlace key given is all stands of =
      let it = of place all inert_here stands in
      let so = stays_changed now (λ r. begins_with key (cells (table_at table place) r)) it.0 _ it.1 (replaced (table_at table place) given it.0) it.2 in
      (so.0, λ low count few room. so.1 count (less_room count room))

-- and so does one that takes the rows of a group out
pub stays_left : (db now : Database) → IsOurs db → (group : Group) (key : Row) (place : Place) (all : List Row)
    → (let s = shared_by group in Stands (table_at s.0) place all db) → OfLeaving group key (IsMade db now) db
    → IsOurs now × ((count : ℕ) → HasRoom count db → HasRoom count now)
stays_left db now ours group key place all stands of =
    let s = shared_by group in
    let it = of place all (inert_here db ours s.0 place stands.listed) stands in
    stays_changed db ours s.0 place stands.listed now (λ r. goes_on s.1 key (cells (table_at s.0 place) r)) it.0 [] it.1 tt it.2
