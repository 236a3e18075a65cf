-- Where a search by halves ends, among entries whose keys rise.
use Rattle.office_model.proofs.Common.{◌&&◌, IsTotalOrder, first_so, second_so, insert, remove, filter, is_lt, is_eq, ordering_reverse, Ordering, Less, Equal, Greater, nat_cmp_total, nat_list_cmp_total, on_total, then_total, get_or_default, take-append-drop, slice_get_read, Key, key_cmp, same_key, by_order, find, put, take_out, is_below, rises, IsAt, IsGapFor, ◌≡◌, ℕ, zero, suc, ◌+◌, ◌<◌, ◌≤◌, Bool, true, false, not, cond, List, [], ◌∷◌, ◌++◌, length, get_or, set, take, drop, Some, None, Result, Ok, Err, IfOk, IfErr, refl, sym, ap, subst, ◌∙◌, arith}
use Rattle.std.specs.List.Sorted.{IsSearchInRange, IsBinarySearchResult}
use Rattle.std.proofs.Math.Seq.{drop-cons}
use Rattle.std.proofs.lemmas.List.Sorted.{searchable_from_sorted}

pub keys_total : IsTotalOrder key_cmp
keys_total = then_total (on_total (λ (k : Key). k.0) nat_cmp_total) (on_total (λ (k : Key). k.1) nat_list_cmp_total)

-- a test that a key is below another
is_less : (r : Ordering) → is_lt r ≡ true → r ≡ Less
is_less Less h = refl
is_less Equal h = cc
is_less Greater h = cc

-- a comparison the other way round
turned : (k q : Key) {o : Ordering} → key_cmp k q ≡ o → key_cmp q k ≡ ordering_reverse o
turned k q is = keys_total.antisymm q k ∙ ap ordering_reverse is

-- a write, as what stands before and after it
set_split : {E : Type 0} (es : List E) (i : ℕ) (e : E) → i < length es → set es i e ≡ take i es ++ e ∷ drop (suc i) es
set_split [] i e h = absurd (omega (arith, h))
set_split (x ∷ es) zero e h = refl
set_split (x ∷ es) (suc i) e h = ap (λ l. x ∷ l) (set_split es i e (omega (arith, h)))

module _ {E : Type 0} (key : E → Key) where
  -- each entry before place i has a smaller key
  abbrev Passed : Key → List E → ℕ → Type 0
  Passed k es i = (j : ℕ) (d : E) → j < i → key_cmp k (key (get_or es j d)) ≡ Greater

  passed_first : (k : Key) (x : E) (es : List E) (i : ℕ) → Passed k (x ∷ es) (suc i) → key_cmp k (key x) ≡ Greater
  passed_first k x es i p = p 0 x (omega arith)

  passed_rest : (k : Key) (x : E) (es : List E) (i : ℕ) → Passed k (x ∷ es) (suc i) → Passed k es i
  passed_rest k x es i p j d h = p (suc j) d (omega arith)

  pub below_all : (k q : Key) (es : List E) → key_cmp k q ≡ Less → is_below key q es ≡ true → is_below key k es ≡ true
  below_all k q [] l h = refl
  below_all k q (x ∷ es) l h =
      let first : key_cmp k (key x) ≡ Less = keys_total.trans k q (key x) l (is_less _ (first_so (is_lt (key_cmp q (key x))) (is_below key q es) h)) in
      ap (λ r. is_lt r && is_below key k es) first ∙ below_all k q es l (second_so (is_lt (key_cmp q (key x))) (is_below key q es) h)

  below_tied : (k q : Key) (es : List E) → key_cmp k q ≡ Equal → is_below key q es ≡ true → is_below key k es ≡ true
  below_tied k q [] l h = refl
  below_tied k q (x ∷ es) l h =
      let first : key_cmp k (key x) ≡ Less = keys_total.congr k q (key x) l ∙ is_less _ (first_so (is_lt (key_cmp q (key x))) (is_below key q es) h) in
      ap (λ r. is_lt r && is_below key k es) first ∙ below_tied k q es l (second_so (is_lt (key_cmp q (key x))) (is_below key q es) h)

  -- an entry that is not found, and what that leaves
  pub find_below : (k : Key) (es : List E) → is_below key k es ≡ true → find key k es ≡ None
  find_below k [] h = refl
  find_below k (x ∷ es) h =
      let first : key_cmp k (key x) ≡ Less = is_less _ (first_so (is_lt (key_cmp k (key x))) (is_below key k es) h) in
      ap (λ r. cond (is_eq r) (Some x) (find key k es)) first ∙ find_below k es (second_so (is_lt (key_cmp k (key x))) (is_below key k es) h)

  kept_below : (k : Key) (es : List E) → is_below key k es ≡ true → take_out key k es ≡ es
  kept_below k [] h = refl
  kept_below k (x ∷ es) h =
      let first : key_cmp k (key x) ≡ Less = is_less _ (first_so (is_lt (key_cmp k (key x))) (is_below key k es) h) in
      ap (λ r. cond (not (is_eq r)) (x ∷ take_out key k es) (take_out key k es)) first ∙ ap (λ l. x ∷ l) (kept_below k es (second_so (is_lt (key_cmp k (key x))) (is_below key k es) h))

  put_below : (e : E) (es : List E) → is_below key (key e) es ≡ true → put key e es ≡ e ∷ es
  put_below e [] h = refl
  put_below e (x ∷ es) h =
      let first : key_cmp (key e) (key x) ≡ Less = is_less _ (first_so (is_lt (key_cmp (key e) (key x))) (is_below key (key e) es) h) in
      ap (λ r. by_order r (e ∷ x ∷ es) (e ∷ es) (x ∷ put key e es)) first

  -- past entries with smaller keys, each of these goes on
  find_passed : (k : Key) (es : List E) (i : ℕ) → Passed k es i → i ≤ length es → find key k es ≡ find key k (drop i es)
  find_passed k es zero p h = refl
  find_passed k [] (suc i) p h = absurd (omega (arith, h))
  find_passed k (x ∷ es) (suc i) p h = ap (λ r. cond (is_eq r) (Some x) (find key k es)) (passed_first k x es i p) ∙ find_passed k es i (passed_rest k x es i p) (omega (arith, h))

  take_out_passed : (k : Key) (es : List E) (i : ℕ) → Passed k es i → i ≤ length es → take_out key k es ≡ take i es ++ take_out key k (drop i es)
  take_out_passed k es zero p h = refl
  take_out_passed k [] (suc i) p h = absurd (omega (arith, h))
  take_out_passed k (x ∷ es) (suc i) p h = ap (λ r. cond (not (is_eq r)) (x ∷ take_out key k es) (take_out key k es)) (passed_first k x es i p) ∙ ap (λ l. x ∷ l) (take_out_passed k es i (passed_rest k x es i p) (omega (arith, h)))

  put_passed : (e : E) (es : List E) (i : ℕ) → Passed (key e) es i → i ≤ length es → put key e es ≡ take i es ++ put key e (drop i es)
  put_passed e es zero p h = refl
  put_passed e [] (suc i) p h = absurd (omega (arith, h))
  put_passed e (x ∷ es) (suc i) p h = ap (λ r. by_order r (e ∷ x ∷ es) (e ∷ es) (x ∷ put key e es)) (passed_first (key e) x es i p) ∙ ap (λ l. x ∷ l) (put_passed e es i (passed_rest (key e) x es i p) (omega (arith, h)))

  rises_rest : (es : List E) (i : ℕ) → rises key es ≡ true → rises key (drop i es) ≡ true
  rises_rest es zero r = r
  rises_rest [] (suc i) r = r
  rises_rest (x ∷ es) (suc i) r = rises_rest es i (second_so (is_below key (key x) es) (rises key es) r)

  -- the entry with the key is first
  tied_find : (k : Key) (x : E) (es : List E) → key_cmp k (key x) ≡ Equal → find key k (x ∷ es) ≡ Some x
  tied_find k x es t = ap (λ r. cond (is_eq r) (Some x) (find key k es)) t

  tied_take_out : (k : Key) (x : E) (es : List E) → key_cmp k (key x) ≡ Equal → rises key (x ∷ es) ≡ true → take_out key k (x ∷ es) ≡ es
  tied_take_out k x es t r = ap (λ r. cond (not (is_eq r)) (x ∷ take_out key k es) (take_out key k es)) t ∙ kept_below k es (below_tied k (key x) es t (first_so (is_below key (key x) es) (rises key es) r))

  tied_put : (e x : E) (es : List E) → key_cmp (key e) (key x) ≡ Equal → put key e (x ∷ es) ≡ e ∷ es
  tied_put e x es t = ap (λ r. by_order r (e ∷ x ∷ es) (e ∷ es) (x ∷ put key e es)) t

  -- from place i on, an entry and those after it
  here : (es : List E) (i : ℕ) (x : E) → i < length es → x ≡ get_or es i x → drop i es ≡ x ∷ drop (suc i) es
  here es i x h is = drop-cons es i x h ∙ ap (λ y. y ∷ drop (suc i) es) (sym is)

  -- a search that ends at a tie has found the place
  is_at : (k : Key) (es : List E) (i : ℕ) (x : E) → i < length es → rises key es ≡ true → Passed k es i → x ≡ get_or es i x → key_cmp k (key x) ≡ Equal → IsAt key es k i
  is_at k es i x h r p is t =
      let at = here es i x h is in
      let rest : rises key (x ∷ drop (suc i) es) ≡ true = subst (λ l. rises key l ≡ true) at (rises_rest es i r) in
      record {
        in_range = h;
        found = find_passed k es i p (omega (arith, h)) ∙ ap (find key k) at ∙ tied_find k x (drop (suc i) es) t ∙ sym (slice_get_read es (length es) i x refl h is);
        written = λ e same.
            put_passed e es i (subst (λ q. Passed q es i) (sym same) p) (omega (arith, h))
            ∙ ap (λ l. take i es ++ put key e l) at
            ∙ ap (λ l. take i es ++ l) (tied_put e x (drop (suc i) es) (subst (λ q. key_cmp q (key x) ≡ Equal) (sym same) t))
            ∙ sym (set_split es i e h);
        removed = take_out_passed k es i p (omega (arith, h)) ∙ ap (λ l. take i es ++ take_out key k l) at ∙ ap (λ l. take i es ++ l) (tied_take_out k x (drop (suc i) es) t rest);
      }

  -- one that ends below the rest has found the gap
  is_gap : (k : Key) (es : List E) (i : ℕ) → i ≤ length es → Passed k es i → is_below key k (drop i es) ≡ true → IsGapFor key es k i
  is_gap k es i h p b = record {
    in_range = h;
    absent = find_passed k es i p h ∙ find_below k (drop i es) b;
    inserted = λ e same.
        put_passed e es i (subst (λ q. Passed q es i) (sym same) p) h
        ∙ ap (λ l. take i es ++ l) (put_below e (drop i es) (subst (λ q. is_below key q (drop i es) ≡ true) (sym same) b));
    unchanged = take_out_passed k es i p h ∙ ap (λ l. take i es ++ l) (kept_below k (drop i es) b) ∙ take-append-drop i es;
  }

  -- a key below the entries is below each of them
  below_at : (q : Key) (es : List E) (i : ℕ) (d : E) → is_below key q es ≡ true → i < length es → key_cmp q (key (get_or es i d)) ≡ Less
  below_at q [] i d b h = absurd (omega (arith, h))
  below_at q (x ∷ es) zero d b h = is_less _ (first_so (is_lt (key_cmp q (key x))) (is_below key q es) b)
  below_at q (x ∷ es) (suc i) d b h = below_at q es i d (second_so (is_lt (key_cmp q (key x))) (is_below key q es) b) (omega (arith, h))

  -- of two entries the later has the greater key
  rises_at : (es : List E) (i j : ℕ) (d : E) → rises key es ≡ true → i < j → j < length es → key_cmp (key (get_or es j d)) (key (get_or es i d)) ≡ Greater
  rises_at [] i j d r l h = absurd (omega (arith, h))
  rises_at (x ∷ es) i zero d r l h = absurd (omega (arith, l))
  rises_at (x ∷ es) zero (suc j) d r l h = turned (key x) _ (below_at (key x) es j d (first_so (is_below key (key x) es) (rises key es) r) (omega (arith, h)))
  rises_at (x ∷ es) (suc i) (suc j) d r l h = rises_at es i j d (second_so (is_below key (key x) es) (rises key es) r) (omega (arith, l)) (omega (arith, h))

  -- a key that each entry from a place on is above
  below_from : (k : Key) (es : List E) (i : ℕ) → ((j : ℕ) (d : E) → i ≤ j → j < length es → key_cmp (key (get_or es j d)) k ≡ Greater) → is_below key k (drop i es) ≡ true
  below_from k [] zero h = refl
  below_from k [] (suc i) h = refl
  below_from k (x ∷ es) zero h = ap (λ r. is_lt r && is_below key k es) (turned (key x) k (h 0 x (omega arith) (omega arith))) ∙ below_from k es 0 (λ j d l n. h (suc j) d (omega arith) (omega (arith, n)))
  below_from k (x ∷ es) (suc i) h = below_from k es i (λ j d l n. h (suc j) d (omega (arith, l)) (omega (arith, n)))

  -- the entry at a place
  entry_at : (es : List E) (i : ℕ) → i < length es → (x : E) × (x ≡ get_or es i x)
  entry_at [] i h = absurd (omega (arith, h))
  entry_at (e ∷ es) i h = let x = get_or (e ∷ es) i e in (x, get_or_default (e ∷ es) i e x h)

  -- a search by halves ends at the key, or in the gap for it
  pub searched : (k : Key) (es : List E) (r : Result ℕ ℕ) → rises key es ≡ true → IsSearchInRange r (length es) → IsBinarySearchResult (λ e. key_cmp (key e) k) es r → record { found : IfOk r (IsAt key es k); absent : IfErr r (IsGapFor key es k) }
  searched k es (Ok i) r h tied =
      let x = entry_at es i h in
      let passed : Passed k es i = λ j d l. keys_total.congr k _ _ (turned _ k (tied d)) ∙ rises_at es j i d r l h in
      record { found = is_at k es i x.0 h r passed x.1 (ap (λ e. key_cmp k (key e)) x.1 ∙ turned _ k (tied x.0)); absent = tt }
  searched k es (Err i) r h parted =
      let sides = parted (searchable_from_sorted keys_total key es k (λ j d l n. ap is_lt (rises_at es j (j + 1) d r (omega arith) n))) in
      record { found = tt; absent = is_gap k es i h (λ j d l. turned _ k (sides.0 j d (omega arith) l)) (below_from k es i sides.1) }

module _ {E : Type 0} (key : E → Key) where
  private_below_by : (q : Key) (e x : E) (xs : List E) (r : Ordering) → key_cmp q (key e) ≡ Less → key_cmp q (key x) ≡ Less → is_below key q xs ≡ true → is_below key q (put key e xs) ≡ true → is_below key q (by_order r (e ∷ x ∷ xs) (e ∷ xs) (x ∷ put key e xs)) ≡ true
  private_below_by q e x xs Less le lx b bp = ap (λ r. is_lt r && is_below key q (x ∷ xs)) le ∙ ap (λ r. is_lt r && is_below key q xs) lx ∙ b
  private_below_by q e x xs Equal le lx b bp = ap (λ r. is_lt r && is_below key q xs) le ∙ b
  private_below_by q e x xs Greater le lx b bp = ap (λ r. is_lt r && is_below key q (put key e xs)) lx ∙ bp

  below_put : (q : Key) (e : E) (xs : List E) → key_cmp q (key e) ≡ Less → is_below key q xs ≡ true → is_below key q (put key e xs) ≡ true
  below_put q e [] l b = ap (λ r. is_lt r && true) l
  below_put q e (x ∷ xs) l b =
      let first : key_cmp q (key x) ≡ Less = is_less _ (first_so (is_lt (key_cmp q (key x))) (is_below key q xs) b) in
      let rest : is_below key q xs ≡ true = second_so (is_lt (key_cmp q (key x))) (is_below key q xs) b in
      private_below_by q e x xs (key_cmp (key e) (key x)) l first rest (below_put q e xs l rest)

  private_rises_by : (e x : E) (xs : List E) (r : Ordering) → key_cmp (key e) (key x) ≡ r → is_below key (key x) xs ≡ true → rises key xs ≡ true → rises key (put key e xs) ≡ true → rises key (by_order r (e ∷ x ∷ xs) (e ∷ xs) (x ∷ put key e xs)) ≡ true
  private_rises_by e x xs Less c b s p = ap (λ r. (is_lt r && is_below key (key e) xs) && (is_below key (key x) xs && rises key xs)) c ∙ ap (λ t. t && (is_below key (key x) xs && rises key xs)) (below_all key (key e) (key x) xs c b) ∙ ap (λ t. t && rises key xs) b ∙ s
  private_rises_by e x xs Equal c b s p = ap (λ t. t && rises key xs) (below_tied key (key e) (key x) xs c b) ∙ s
  private_rises_by e x xs Greater c b s p = ap (λ t. t && rises key (put key e xs)) (below_put (key x) e xs (turned (key e) (key x) c) b) ∙ p

  -- the keys go on rising when an entry is put
  pub rises-put : (e : E) (es : List E) → rises key es ≡ true → rises key (put key e es) ≡ true
  rises-put e [] r = refl
  rises-put e (x ∷ xs) r =
      let rest : rises key xs ≡ true = second_so (is_below key (key x) xs) (rises key xs) r in
      private_rises_by e x xs (key_cmp (key e) (key x)) refl (first_so (is_below key (key x) xs) (rises key xs) r) rest (rises-put e xs rest)

  below_kept : (q : Key) (x : E) (xs : List E) (keep : Bool) → key_cmp q (key x) ≡ Less → is_below key q xs ≡ true → is_below key q (cond keep (x ∷ xs) xs) ≡ true
  below_kept q x xs true l b = ap (λ r. is_lt r && is_below key q xs) l ∙ b
  below_kept q x xs false l b = b

  below_filter : (q : Key) (p : E → Bool) (xs : List E) → is_below key q xs ≡ true → is_below key q (filter p xs) ≡ true
  below_filter q p [] b = refl
  below_filter q p (x ∷ xs) b = below_kept q x (filter p xs) (p x) (is_less _ (first_so (is_lt (key_cmp q (key x))) (is_below key q xs) b)) (below_filter q p xs (second_so (is_lt (key_cmp q (key x))) (is_below key q xs) b))

  rises_kept : (x : E) (xs : List E) (keep : Bool) → is_below key (key x) xs ≡ true → rises key xs ≡ true → rises key (cond keep (x ∷ xs) xs) ≡ true
  rises_kept x xs true b r = ap (λ t. t && rises key xs) b ∙ r
  rises_kept x xs false b r = r

  -- and when entries are left out
  pub rises-filter : (p : E → Bool) (xs : List E) → rises key xs ≡ true → rises key (filter p xs) ≡ true
  rises-filter p [] r = refl
  rises-filter p (x ∷ xs) r = rises_kept x (filter p xs) (p x) (below_filter (key x) p xs (first_so (is_below key (key x) xs) (rises key xs) r)) (rises-filter p xs (second_so (is_below key (key x) xs) (rises key xs) r))

-- a key from its parts
pub key_of_parts : (q : Key) (r : ℕ) (c : List ℕ) → r ≡ q.0 → c ≡ q.1 → q ≡ (r, c)
key_of_parts q r c same_round same_code i = (sym same_round i, sym same_code i)

module _ {E : Type 0} (key : E → Key) where
  -- the keys go on rising where a search's place is written, filled or emptied
  pub rises_written : (es us : List E) (k : Key) (i : ℕ) (e : E) → us ≡ es → IsAt key us k i → key e ≡ k → rises key es ≡ true → rises key (set es i e) ≡ true
  rises_written es us k i e from at same r = subst (λ l. rises key (set l i e) ≡ true) from (subst (λ l. rises key l ≡ true) (at.written e same) (rises-put key e us (subst (λ l. rises key l ≡ true) (sym from) r)))

  pub rises_inserted : (es us new : List E) (k : Key) (i : ℕ) (e : E) → us ≡ es → IsGapFor key us k i → key e ≡ k → new ≡ insert es i e → rises key es ≡ true → rises key new ≡ true
  rises_inserted es us new k i e from gap same to r = subst (λ l. rises key l ≡ true) (gap.inserted e same ∙ ap (λ l. insert l i e) from ∙ sym to) (rises-put key e us (subst (λ l. rises key l ≡ true) (sym from) r))

  pub rises_removed : (es us new : List E) (k : Key) (i : ℕ) → us ≡ es → IsAt key us k i → new ≡ remove es i → rises key es ≡ true → rises key new ≡ true
  rises_removed es us new k i from at to r = subst (λ l. rises key l ≡ true) (at.removed ∙ ap (λ l. remove l i) from ∙ sym to) (rises-filter key (λ e. not (same_key k (key e))) us (subst (λ l. rises key l ≡ true) (sym from) r))
