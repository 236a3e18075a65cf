-- What an edit of ours that was made did to the rows of its table, and that it did nothing else.
use Rattle.sql_tables.proofs.Common.{IsPermutation, IsPermutation-append_left, IsPermutation-cons, IsPermutation-filter, IsPermutation-map, IsPermutation-middle, IsPermutation-refl, IsPermutation-sym, IsPermutation-trans, IsKeyed, Null, Row, Chosen, and_parts, all_has, are_fresh, cells, id_in, is_taken, laid_out, map-append, map-map, put_all, put_row, rowid, take-map, with_rowid, with_row, without_all, begins_with, AnyTable, Cells, Group, Has, ◌≡◌, inl, inr, refl, take, List, [], ◌∷◌, ◌++◌, Bool, true, false, cond, filter, map, not, sym, ap, subst, ◌∙◌, ◌&&◌, Ours as Table, are_of, keyed, kinds_of, shared_by, Database, is_int, Entering, InPlace, New, IsMade, OfChange, OfEntry, OfLeaving, OfRow, adding, changing, replacing, Place, table_at, value_of, values, Adds, Enters, Leaves, goes_on}
use Rattle.schema.specs.Rows.{key_in}
use Rattle.sql_tables.specs.Writes.{Puts, Removes}
use Rattle.sql_tables.proofs.Places.{listed_along}
use Rattle.sql_tables.proofs.Puts.{put_row_permutes}
use Rattle.sql_tables.proofs.Rowids.{keyed_put, keyed_put_all, permuted_has, put_all_permutes}
use Rattle.sql_tables.proofs.RowidsOut.{kept_has, map_filter, passes, still_keyed, taken_out}
use Rattle.sql_tables.proofs.Texts.{Gives, by_kinds}
use Rattle.sql_tables.proofs.Tables.{texts}

not_true : (b : Bool) → (not b && true) ≡ true → b ≡ false
not_true true e = absurd (cc)
not_true false e = refl

-- what a test makes of rows: of those that pass one thing, next to another of the others
halves : {X Y : Type 0} (p : X → Bool) (f g : X → Y) (xs : List X) → IsPermutation (map (λ x. cond (p x) (f x) (g x)) xs) (map f (filter p xs) ++ map g (filter (λ x. not (p x)) xs))
halves p f g [] = IsPermutation-refl []
halves p f g (x ∷ xs) = by (p x) _ (filter p xs) (filter (λ x. not (p x)) xs) (halves p f g xs)
  where
    by : (b : Bool) (ys : List _) (passing others : List _) → IsPermutation ys (map f passing ++ map g others)
        → IsPermutation (cond b (f x) (g x) ∷ ys) (map f (cond b (x ∷ passing) passing) ++ map g (cond (not b) (x ∷ others) others))
    by true ys passing others h = IsPermutation-cons (f x) _ _ h
    by false ys passing others h = IsPermutation-trans _ _ _ (IsPermutation-cons (g x) _ _ h) (IsPermutation-sym _ _ (IsPermutation-middle (map f passing) (g x) (map g others)))

-- lists of what is the same at each
pub map_same : {X Y : Type 0} (f g : X → Y) (xs : List X) → ((x : X) → Has xs x → f x ≡ g x) → map f xs ≡ map g xs
map_same f g [] same = refl
map_same f g (x ∷ xs) same = λ i. same x (inl refl) i ∷ map_same f g xs (λ y h. same y (inr h)) i

-- ---- rows that are replaced

module _ (t : AnyTable) (row key : Row) (here found : List Row) (keyed : IsKeyed here) (same : IsPermutation (filter (λ r. begins_with key (cells t r)) here) found)
    (set : (r : Row) → is_int (rowid r) ≡ true → begins_with key (cells t r) ≡ true → cells t (replacing t row r) ≡ row) where
  abbrev test : Row → Bool
  test r = begins_with key (cells t r)

  abbrev news : List Row
  news = map (replacing t row) found

  abbrev left : List Row
  left = without_all here (map (λ r. id_in (rowid r)) found)

  left_is : left ≡ filter (λ r. not (test r)) here
  left_is = taken_out test here (map (λ r. id_in (rowid r)) found) keyed (IsPermutation-map (λ r. id_in (rowid r)) _ _ same)

  left_keyed : IsKeyed left
  left_keyed = subst IsKeyed (sym left_is) (still_keyed (λ r. not (test r)) here keyed)

  each_set : (r : Row) → Has found r → cells t (replacing t row r) ≡ row
  each_set r among = let there = permuted_has (filter test here) found same r among in set r (all_has _ here r keyed.ids (kept_has test here r there)) (passes test here r there)

  -- the given row for each that is found, and the others
  both_shown : IsPermutation (with_row key row (map (cells t) here)) (map (λ (_ : Row). row) found ++ map (cells t) left)
  both_shown = IsPermutation-trans _ _ _
      (subst (λ first. IsPermutation first (map (λ (_ : Row). row) (filter test here) ++ map (cells t) (filter (λ r. not (test r)) here))) (sym (map-map (λ v. cond (begins_with key v) row v) (cells t) here))
      (halves test (λ (_ : Row). row) (cells t) here))
      (subst (λ others. IsPermutation (map (λ (_ : Row). row) (filter test here) ++ map (cells t) (filter (λ r. not (test r)) here)) (map (λ (_ : Row). row) found ++ map (cells t) others)) (sym left_is)
      (IsPermutation-append_left (map (cells t) (filter (λ r. not (test r)) here)) _ _ (IsPermutation-map (λ (_ : Row). row) _ _ same)))

  -- the rows that are written and those that are left are the table
  together : (rows : List Row) → IsPermutation rows (map (cells t) here) → are_fresh left news ≡ true → IsPermutation (with_row key row rows) (map (cells t) (put_all left news))
  together rows holds fresh =
      let shown : map (cells t) news ≡ map (λ (_ : Row). row) found = map-map (cells t) (replacing t row) found ∙ map_same _ _ found each_set in
      IsPermutation-trans _ _ _ (IsPermutation-map (λ v. cond (begins_with key v) row v) _ _ holds)
      (IsPermutation-trans _ _ _ both_shown
      (subst (λ first. IsPermutation first (map (cells t) (put_all left news))) (map-append (cells t) news left ∙ ap (λ first. first ++ map (cells t) left) shown) (IsPermutation-map (cells t) _ _ (put_all_permutes news left fresh))))

-- ---- the edits of the product's tables

module _ (table : Table) (given : Cells) (fits : are_of (kinds_of table) given ≡ true) where
  abbrev row : Row
  row = values given

  gives : (place : Place) → Gives table place row
  gives place = by_kinds (kinds_of table) (Gives table place) ((texts table).rows place) given fits

  -- a row more
  adds : (old new : Database) → OfRow (table_at table) row (IsMade old new) old → Adds (table_at table) row old new
  adds old new made place rows stands =
      let t = table_at table place in
      let here = old.trees place.tree in
      let it : IsMade old new (adding t row old.trees) = made place stands.listed in
      let stored = with_rowid Chosen here (laid_out Null t.key row) in
      let free : is_taken here stored ≡ false = not_true _ it.2.fresh in
      let grown = IsPermutation-trans _ _ _ (IsPermutation-cons row rows _ stands.holds)
      (subst (λ first. IsPermutation (first ∷ map (cells t) here) (map (cells t) (put_row stored here))) ((gives place).added here) (IsPermutation-map (cells t) _ _ (put_row_permutes stored here free))) in (
        record {
          listed = listed_along old.schema new.schema t it.1 stands.listed;
          keyed = subst IsKeyed (sym it.2.rows) (keyed_put stored here (and_parts _ _ it.2.keyed).0 free stands.keyed);
          holds = subst (λ all. IsPermutation (row ∷ rows) (map (cells t) all)) (sym it.2.rows) grown;
        },
        record { schema = it.1; others = it.2.tables },
      )

  -- the row in the place of each with its key
  puts : (key : Row) → take (keyed table) row ≡ key → (old new : Database) → OfChange (table_at table) (begins_with key) (λ t. map (replacing t row)) (IsMade old new) old → Puts (table_at table) key row old new
  unfolding Puts
  puts key is old new made place rows inert stands =
      let t = table_at table place in
      let here = old.trees place.tree in
      let found = made place rows inert stands in
      let it : IsMade old new (changing t found.0 (map (replacing t row) found.0)) = found.2 in
      let set = λ (r : Row) (int : is_int (rowid r) ≡ true) (begins : begins_with key (cells t r) ≡ true). (gives place).set r int (subst (λ k. begins_with k (cells t r) ≡ true) (sym is) begins) in
      let left = without_all here (map (λ r. id_in (rowid r)) found.0) in (
        record {
          listed = listed_along old.schema new.schema t it.1 stands.listed;
          keyed = subst IsKeyed (sym it.2.rows) (keyed_put_all (map (replacing t row) found.0) left it.2.keyed it.2.fresh (left_keyed t row key here found.0 stands.keyed found.1 set));
          holds = subst (λ all. IsPermutation (with_row key row rows) (map (cells t) all)) (sym it.2.rows) (together t row key here found.0 stands.keyed found.1 set rows stands.holds it.2.fresh);
        },
        record { schema = it.1; others = it.2.tables },
      )

  -- so an entry
  pub enters : (way : Entering) (old new : Database) → OfEntry way (table_at table) (values (key_in table given)) row (IsMade old new) old → Enters way (table_at table) (values (key_in table given)) row old new
  enters InPlace = puts (values (key_in table given)) (take-map value_of (keyed table) given)
  enters New = adds

-- the rows of a group are gone
pub leaves : (group : Group) (key : Row) (old new : Database) → OfLeaving group key (IsMade old new) old → Leaves group key old new
unfolding Removes
leaves group key old new made place rows inert stands =
    let from = shared_by group in
    let t = table_at from.0 place in
    let here = old.trees place.tree in
    let goes = goes_on from.1 key in
    let found = made place rows inert stands in
    let it : IsMade old new (changing t found.0 []) = found.2 in
    let left : new.trees place.tree ≡ filter (λ r. not (goes (cells t r))) here =
    it.2.rows ∙ taken_out (λ r. goes (cells t r)) here (map (λ r. id_in (rowid r)) found.0) stands.keyed (IsPermutation-map (λ r. id_in (rowid r)) _ _ found.1) in
    let shown = map_filter (cells t) (λ r. not (goes (cells t r))) (λ v. not (goes v)) (λ r. refl) here in (
      record {
        listed = listed_along old.schema new.schema t it.1 stands.listed;
        keyed = subst IsKeyed (sym left) (still_keyed (λ r. not (goes (cells t r))) here stands.keyed);
        holds = subst (λ all. IsPermutation (filter (λ v. not (goes v)) rows) all) (sym (ap (map (cells t)) left ∙ shown)) (IsPermutation-filter (λ v. not (goes v)) _ _ stands.holds);
      },
      record { schema = it.1; others = it.2.tables },
    )
