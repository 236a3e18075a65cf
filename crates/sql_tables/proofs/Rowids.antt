-- Rows that are distinguished by their rowids, and what puts keep of it.
use Rattle.sql_tables.proofs.Common.{list_any, AllByRecursion, IsPermutation, is_eq, and_parts, or_parts, not-true, IsPermutation-refl, IsPermutation-trans, IsPermutation-middle, IsPermutation-sym, IsPermutation-append_right, Value, Row, value_cmp, rowid, has_rowid, put_row, IsAscending, is_int, is_taken, are_fresh, put_all, have_rowids, value_cmp_total, Has, all_has, all_from, int_is, along_permutation, id_of, IsKeyed, ◌≡◌, inl, inr, List, [], ◌∷◌, ◌++◌, map, Bool, true, false, sym, ap, subst, subst₂, ◌∙◌, tied_itself, eq_by_cmp_equiv}
use Rattle.sql_tables.proofs.Puts.{put_row_permutes}

-- values that differ differ the other way round
pub flip : (a b : Value) → is_eq (value_cmp a b) ≡ false → is_eq (value_cmp b a) ≡ false
flip a b h = (eq_by_cmp_equiv value_cmp_total).symm b a ∙ h

-- a row is found by its rowid
pub found_of : (rows : List Row) → AllByRecursion (λ r. is_int (rowid r) ≡ true) rows → AllByRecursion (λ r. has_rowid (id_of r) r ≡ true) rows
found_of rows ids = all_from _ rows (λ r h. ap (λ v. is_eq (value_cmp (rowid r) v)) (sym (int_is (rowid r) (all_has _ rows r ids h))) ∙ ap is_eq (tied_itself value_cmp_total (rowid r)))

apart_one : (a b : Row) → is_int (rowid a) ≡ true → is_eq (value_cmp (rowid b) (rowid a)) ≡ false → has_rowid (id_of a) b ≡ false
apart_one a b int h = ap (λ v. is_eq (value_cmp (rowid b) v)) (sym (int_is (rowid a) int)) ∙ h

-- and by no other
pub both_of : (rows : List Row) → AllByRecursion (λ r. is_int (rowid r) ≡ true) rows → IsAscending (λ a b. is_eq (value_cmp (rowid a) (rowid b)) ≡ false) rows
    → IsAscending (λ a b. (has_rowid (id_of a) b ≡ false) × (has_rowid (id_of b) a ≡ false)) rows
both_of [] ids apart = tt
both_of (x ∷ xs) ids apart = (
  all_from _ xs (λ y h. (apart_one x y ids.0 (flip (rowid x) (rowid y) (all_has _ xs y apart.0 h)), apart_one y x (all_has _ xs y ids.1 h) (all_has _ xs y apart.0 h))),
  both_of xs ids.1 apart.1,
)

abbrev Along : List Row → List Row → Type 0
Along xs ys = (IsKeyed xs → IsKeyed ys) × ((y : Row) → Has ys y → Has xs y)

under_has : (x : Row) (xs ys : List Row) → ((y : Row) → Has ys y → Has xs y) → (y : Row) → Has (x ∷ ys) y → Has (x ∷ xs) y
under_has x xs ys f y (inl same) = inl same
under_has x xs ys f y (inr h) = inr (f y h)

turned_has : (x y : Row) (xs : List Row) (z : Row) → Has (y ∷ x ∷ xs) z → Has (x ∷ y ∷ xs) z
turned_has x y xs z (inl same) = inr (inl same)
turned_has x y xs z (inr (inl same)) = inl same
turned_has x y xs z (inr (inr h)) = inr (inr h)

along : (xs ys : List Row) → IsPermutation xs ys → Along xs ys
along = along_permutation Along (λ xs. (λ h. h, λ y h. h))
    (λ x xs ys f. (
      λ keyed.
          let later = f.0 (record { ids = keyed.ids.1; apart = keyed.apart.1 }) in
          record { ids = (keyed.ids.0, later.ids); apart = (all_from _ ys (λ y h. all_has _ xs y keyed.apart.0 (f.1 y h)), later.apart) },
      under_has x xs ys f.1,
    ))
    (λ x y xs. (
      λ keyed. record {
        ids = (keyed.ids.1.0, (keyed.ids.0, keyed.ids.1.1));
        apart = ((flip (rowid x) (rowid y) keyed.apart.0.0, keyed.apart.1.0), (keyed.apart.0.1, keyed.apart.1.1));
      },
      turned_has x y xs,
    ))
    (λ xs ys zs f g. (λ keyed. g.0 (f.0 keyed), λ y h. f.1 y (g.1 y h)))

-- keyed rows are keyed in any order
pub keyed_permuted : (xs ys : List Row) → IsPermutation xs ys → IsKeyed xs → IsKeyed ys
keyed_permuted xs ys same = (along xs ys same).0

-- and have no other rows
pub permuted_has : (xs ys : List Row) → IsPermutation xs ys → (y : Row) → Has ys y → Has xs y
permuted_has xs ys same = (along xs ys same).1

-- no row passes a test that none passes
pub none_has : {X : Type 0} (q : X → Bool) (xs : List X) (x : X) → list_any q xs ≡ false → Has xs x → q x ≡ false
none_has q [] x none h = absurd h
none_has q (y ∷ xs) x none (inl same) = ap q same ∙ (or_parts _ _ none).0
none_has q (y ∷ xs) x none (inr h) = none_has q xs x (or_parts _ _ none).1 h

-- a row with a free rowid leaves the rows keyed
pub keyed_put : (new : Row) (rows : List Row) → is_int (rowid new) ≡ true → is_taken rows new ≡ false → IsKeyed rows → IsKeyed (put_row new rows)
keyed_put new rows int free keyed = keyed_permuted (new ∷ rows) _ (put_row_permutes new rows free) (record {
  ids = (int, keyed.ids);
  apart = (all_from _ rows (λ r h. flip (rowid r) (rowid new) (none_has _ rows r free h)), keyed.apart);
})

-- this many rows more
pub put_all_permutes : (news rows : List Row) → are_fresh rows news ≡ true → IsPermutation (news ++ rows) (put_all rows news)
put_all_permutes [] rows fresh = IsPermutation-refl rows
put_all_permutes (n ∷ news) rows fresh =
    let parts = and_parts _ _ fresh in
    let one = IsPermutation-append_right news _ _ (put_row_permutes n rows (not-true _ parts.0)) in
    IsPermutation-trans _ _ _ (IsPermutation-sym _ _ (IsPermutation-middle news n rows)) (IsPermutation-trans _ _ _ one (put_all_permutes news (put_row n rows) parts.1))

-- which leaves them keyed
pub keyed_put_all : (news rows : List Row) → have_rowids news ≡ true → are_fresh rows news ≡ true → IsKeyed rows → IsKeyed (put_all rows news)
keyed_put_all [] rows ints fresh keyed = keyed
keyed_put_all (n ∷ news) rows ints fresh keyed =
    let parts = and_parts _ _ fresh in
    let known = and_parts _ _ ints in
    keyed_put_all news (put_row n rows) known.1 parts.1 (keyed_put n rows known.0 (not-true _ parts.0) keyed)

module _ (f : Row → Row) (same_id : (r : Row) → rowid (f r) ≡ rowid r) where
  under_ids : (P : Row → Type 0) (rows : List Row) → AllByRecursion P (map f rows) → AllByRecursion (λ r. P (f r)) rows
  under_ids P [] all = tt
  under_ids P (r ∷ rows) all = (all.0, under_ids P rows all.1)

  from_ids : (rows : List Row) → IsKeyed (map f rows) → IsKeyed rows
  from_ids [] keyed = record { ids = tt; apart = tt }
  from_ids (r ∷ rows) keyed =
      let later = from_ids rows (record { ids = keyed.ids.1; apart = keyed.apart.1 }) in
      record {
        ids = (subst (λ v. is_int v ≡ true) (same_id r) keyed.ids.0, later.ids);
        apart = (
          all_from _ rows (λ b h. subst₂ (λ v w. is_eq (value_cmp v w) ≡ false) (same_id r) (same_id b) (all_has _ rows b (under_ids (λ b. is_eq (value_cmp (rowid (f r)) (rowid b)) ≡ false) rows keyed.apart.0) h)),
          later.apart,
        );
      }

  -- what a query shows of the rowids holds of the table
  pub keyed_by_ids : (here rows : List Row) → IsPermutation rows (map f here) → IsKeyed rows → IsKeyed here
  keyed_by_ids here rows same keyed = from_ids here (keyed_permuted rows _ same keyed)
