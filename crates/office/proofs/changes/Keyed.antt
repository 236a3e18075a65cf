-- Entries in the order of their keys, and their rows: an entry that is put stands next to the others, in whatever order, and a test that
-- finds the rows of one key alone leaves those of the others.
use Rattle.office.proofs.changes.Common.{flat_map, IsPermutation, ◌&&◌, AllByRecursion, list_any, first_so, second_so, is_eq, Ordering, Less, Equal, Greater, and_from, eq-eqb, filter-append, filter_passes, recursion_from_All, IsPermutation-refl, IsPermutation-sym, IsPermutation-trans, IsPermutation-cons, IsPermutation-middle, IsPermutation-append_right, IsPermutation-same, filter_all, filter_none, all_weaker, any_from_none, Text, Number, Bytes, Cells, begins, same_cell, Key, key_cmp, same_key, by_order, find, has, put, put_all, take_out, is_below, rises, find-put, is_equal, below_all, find_below, rises-put, bytes_self, keys_exact, ℕ, zero, suc, take, length, drop, ◌≡◌, Bool, true, false, not, cond, List, [], ◌∷◌, ◌++◌, Some, is_some, refl, sym, ap, subst, ◌∙◌, filter}
use Rattle.schema.specs.declared.cell.Cell.{Cell}

module _ {E : Type 0} (key : E → Key) where
  -- an entry stays unless it has the key
  abbrev kept : Bool → E → List E → List E
  kept same x xs = cond (not same) (x ∷ xs) xs

  -- where nothing is found nothing is taken out
  pub none_taken : (k : Key) (es : List E) → has key k es ≡ false → take_out key k es ≡ es
  none_taken k [] h = refl
  none_taken k (x ∷ es) h =
      elim (same_key k (key x)) as (λ b. is_some (cond b (Some x) (find key k es)) ≡ false → kept b x (take_out key k es) ≡ x ∷ es) [
        | true ↦ λ f. absurd (cc)
        | false ↦ λ f. ap (λ xs. x ∷ xs) (none_taken k es f)
      ] h

  -- as at a key that is below all
  spared : (k : Key) (es : List E) → is_below key k es ≡ true → take_out key k es ≡ es
  spared k es b = none_taken k es (ap is_some (find_below key k es b))

  -- and after an entry with the key
  spared_behind : (k : Key) (x : E) (xs : List E) → key_cmp k (key x) ≡ Equal → is_below key (key x) xs ≡ true → take_out key k xs ≡ xs
  spared_behind k x xs c b = spared k xs (subst (λ q. is_below key q xs ≡ true) (sym (keys_exact k (key x) c)) b)

  -- where an entry is put before another, in its place, or after it
  put_by : (e x : E) (xs : List E) (r : Ordering) → key_cmp (key e) (key x) ≡ r → is_below key (key x) xs ≡ true → IsPermutation (e ∷ take_out key (key e) xs) (put key e xs)
      → IsPermutation (e ∷ kept (is_eq r) x (take_out key (key e) xs)) (by_order r (e ∷ x ∷ xs) (e ∷ xs) (x ∷ put key e xs))
  put_by e x xs Less c b h = IsPermutation-same _ _ (ap (λ ys. e ∷ x ∷ ys) (spared (key e) xs (below_all key (key e) (key x) xs c b)))
  put_by e x xs Equal c b h = IsPermutation-same _ _ (ap (λ ys. e ∷ ys) (spared_behind (key e) x xs c b))
  put_by e x xs Greater c b h = IsPermutation-trans _ _ _ (IsPermutation-middle (e ∷ []) x (take_out key (key e) xs)) (IsPermutation-cons x _ _ h)

  -- an entry that is put stands next to those that have not its key
  pub put_beside : (e : E) (es : List E) → rises key es ≡ true → IsPermutation (e ∷ take_out key (key e) es) (put key e es)
  put_beside e [] r = IsPermutation-refl _
  put_beside e (x ∷ xs) r = put_by e x xs (key_cmp (key e) (key x)) refl (first_so (is_below key (key x) xs) (rises key xs) r) (put_beside e xs (second_so (is_below key (key x) xs) (rises key xs) r))

  -- one that is found stands next to them too
  pub found_beside : (k : Key) (e : E) (es : List E) → rises key es ≡ true → find key k es ≡ Some e → IsPermutation (e ∷ take_out key k es) es
  found_beside k e [] r h = absurd (cc)
  found_beside k e (x ∷ xs) r h =
      elim (same_key k (key x)) as (λ b. same_key k (key x) ≡ b → cond b (Some x) (find key k xs) ≡ Some e → IsPermutation (e ∷ kept b x (take_out key k xs)) (x ∷ xs)) [
        | true ↦ λ tied f.
            let same : e ≡ x = cc in
            let none = spared_behind k x xs (is_equal _ tied) (first_so (is_below key (key x) xs) (rises key xs) r) in
            IsPermutation-same _ _ (λ i. same i ∷ none i)
        | false ↦ λ tied f.
            IsPermutation-trans _ _ _ (IsPermutation-middle (e ∷ []) x (take_out key k xs))
            (IsPermutation-cons x _ _ (found_beside k e xs (second_so (is_below key (key x) xs) (rises key xs) r) f))
      ] refl h

  -- so an entry of a new key stands next to all
  pub added_beside : (e : E) (es : List E) → rises key es ≡ true → has key (key e) es ≡ false → IsPermutation (e ∷ es) (put key e es)
  added_beside e es r none = subst (λ xs. IsPermutation (e ∷ xs) (put key e es)) (none_taken (key e) es none) (put_beside e es r)

  -- entries have new keys when each is put
  abbrev pub AreNew : List E → List E → Type 0
  AreNew [] es = Unit
  AreNew (x ∷ xs) es = (has key (key x) es ≡ false) × AreNew xs (x ∷ es)

  -- they hang on what is found among those that are there
  new_same : (xs es fs : List E) → ((k : Key) → find key k es ≡ find key k fs) → AreNew xs es → AreNew xs fs
  new_same [] es fs same new = tt
  new_same (x ∷ xs) es fs same new = (ap is_some (sym (same (key x))) ∙ new.0, new_same xs (x ∷ es) (x ∷ fs) (λ k. ap (cond (same_key k (key x)) (Some x)) (same k)) new.1)

  -- such entries, put one after another, stand next to those that were there
  pub all_beside : (xs es : List E) → rises key es ≡ true → AreNew xs es → IsPermutation (xs ++ es) (put_all key xs es)
  all_beside [] es r new = IsPermutation-refl es
  all_beside (x ∷ xs) es r new =
      IsPermutation-trans _ _ _ (IsPermutation-sym _ _ (IsPermutation-middle xs x es))
      (IsPermutation-trans _ _ _ (IsPermutation-append_right xs _ _ (added_beside x es r new.0))
      (all_beside xs (put key x es) (rises-put key x es r) (new_same xs (x ∷ es) (put key x es) (λ k. sym (find-put key k x es)) new.1)))

-- ---- tests of rows

module _ {E X : Type 0} (key : E → Key) (rows : E → List X) (k : Key) (keeps : X → Bool) where
  -- where a test keeps none of the rows of an entry with the key, and else all, it keeps those of the other entries
  pub rows_left : ((e : E) → filter keeps (rows e) ≡ cond (not (same_key k (key e))) (rows e) []) → (es : List E) → filter keeps (flat_map rows es) ≡ flat_map rows (take_out key k es)
  rows_left parts [] = refl
  rows_left parts (e ∷ es) = filter-append keeps (rows e) (flat_map rows es) ∙ (λ i. parts e i ++ rows_left parts es i) ∙ by (not (same_key k (key e)))
    where
      by : (b : Bool) → cond b (rows e) [] ++ flat_map rows (take_out key k es) ≡ flat_map rows (cond b (e ∷ take_out key k es) (take_out key k es))
      by true = refl
      by false = refl

  -- where it keeps all rows of the other entries, it keeps all where these alone are
  pub rows_stay : ((e : E) → same_key k (key e) ≡ false → filter keeps (rows e) ≡ rows e) → (es : List E) → filter keeps (flat_map rows (take_out key k es)) ≡ flat_map rows (take_out key k es)
  rows_stay all [] = refl
  rows_stay all (e ∷ es) = by (same_key k (key e)) refl (rows_stay all es)
    where
      by : (b : Bool) → same_key k (key e) ≡ b → filter keeps (flat_map rows (take_out key k es)) ≡ flat_map rows (take_out key k es)
          → filter keeps (flat_map rows (cond (not b) (e ∷ take_out key k es) (take_out key k es))) ≡ flat_map rows (cond (not b) (e ∷ take_out key k es) (take_out key k es))
      by true is h = h
      by false is h = filter-append keeps (rows e) (flat_map rows (take_out key k es)) ∙ (λ i. all e is i ++ h i)

-- a test that says the same of all keeps all or none
pub filter_alike : {X : Type 0} (p : X → Bool) (b : Bool) (xs : List X) → AllByRecursion (λ x. p x ≡ b) xs → filter p xs ≡ cond b xs []
filter_alike p true xs all = filter_all p xs all
filter_alike p false xs all = filter_none p xs all

-- and none of those that it leaves out
pub none_left : {X : Type 0} (p : X → Bool) (xs : List X) → list_any p (filter (λ x. not (p x)) xs) ≡ false
none_left p xs = any_from_none p _ (all_weaker (λ x. not (p x) ≡ true) (λ x. p x ≡ false) (λ x h. fails (p x) h) _ (recursion_from_All (λ x. not (p x) ≡ true) _ (filter_passes (λ x. not (p x)) xs)))
  where
    fails : (b : Bool) → not b ≡ true → b ≡ false
    fails true h = cc
    fails false h = refl

-- a row begins with a key and more where it begins with the key and goes on with more
pub begins_both : (key more row : Cells) → begins (key ++ more) row ≡ (begins key row && begins more (drop (length key) row))
begins_both [] more row = refl
begins_both (c ∷ key) more [] = refl
begins_both (c ∷ key) more (d ∷ row) = by (same_cell c d) (begins_both key more row)
  where
    by : (b : Bool) → begins (key ++ more) row ≡ (begins key row && begins more (drop (length key) row)) → (b && begins (key ++ more) row) ≡ ((b && begins key row) && begins more (drop (length key) row))
    by true h = h
    by false h = refl

-- a cell is the same as itself
same_cell_self : (c : Cell) → same_cell c c ≡ true
same_cell_self (Text a) = bytes_self a
same_cell_self (Number a) = eq-eqb a a refl
same_cell_self (Bytes a) = bytes_self a

-- a row begins with its first cells
pub begins_self : (n : ℕ) (row : Cells) → begins (take n row) row ≡ true
begins_self zero row = refl
begins_self (suc n) [] = refl
begins_self (suc n) (c ∷ row) = and_from (same_cell c c) (begins (take n row) row) (same_cell_self c) (begins_self n row)
