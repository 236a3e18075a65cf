-- A row that is put where its rowid is free.
use Rattle.sql_tables.proofs.Common.{IsPermutation, match_ordering, IsPermutation-refl, IsPermutation-trans, IsPermutation-cons, IsPermutation-middle, IsPermutation-sym, Row, value_cmp, rowid, put_row, is_taken, ◌≡◌, List, [], ◌∷◌, refl, false, Ordering, Less, Equal, Greater}

put_by_order : (new r : Row) (rows : List Row) (o : Ordering) → value_cmp (rowid r) (rowid new) ≡ o → (is_taken rows new ≡ false → IsPermutation (new ∷ rows) (put_row new rows))
    → is_taken (r ∷ rows) new ≡ false → IsPermutation (new ∷ r ∷ rows) (match_ordering o (r ∷ put_row new rows) (new ∷ rows) (new ∷ r ∷ rows))
put_by_order new r rows Less is later free = IsPermutation-trans _ _ _ (IsPermutation-sym _ _ (IsPermutation-middle (r ∷ []) new rows)) (IsPermutation-cons r _ _ (later (rw is at free)))
put_by_order new r rows Equal is later free = absurd (let e = rw is at free in cc)
put_by_order new r rows Greater is later free = IsPermutation-refl _

-- a row that is put where its rowid is free is one more
pub put_row_permutes : (new : Row) (rows : List Row) → is_taken rows new ≡ false → IsPermutation (new ∷ rows) (put_row new rows)
put_row_permutes new [] free = IsPermutation-refl _
put_row_permutes new (r ∷ rows) free = put_by_order new r rows _ refl (put_row_permutes new rows) free
