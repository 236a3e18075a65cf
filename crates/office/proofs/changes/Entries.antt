-- Entries in the order of their keys: what is found after some are left out or one is put, and what is counted.
use Rattle.office.proofs.changes.Common.{◌&&◌, nat_le, nat_lt, filter, count_by, option_map_or, first_so, second_so, AllByRecursion, nat_tests, option_filter, Key, key_cmp, same_key, find, has, put, is_below, rises, find-put, is_equal, find_below, keys_exact, ◌≡◌, ℕ, zero, suc, ◌+◌, ◌≤◌, Bool, true, false, not, cond, List, [], ◌∷◌, Option, Some, None, is_some, slice_get, refl, sym, ap, subst, ◌∙◌, arith}
use Rattle.std.proofs.lemmas.List.Sums.{sum_by-cons}

-- ---- tests

pub not_false : (b : Bool) → not b ≡ false → b ≡ true
not_false true h = refl
not_false false h = cc

pub not_above : (limit n : ℕ) → nat_lt limit n ≡ false → n ≤ limit
not_above limit n h = grind (arith, nat_tests)

-- there is room for one more, or it takes the place of another
pub room : (limit : ℕ) (b : Bool) (n m : ℕ) → (not b && nat_le limit n) ≡ false → n ≤ limit → m ≡ cond b n (n + 1) → m ≤ limit
room limit true n m free few is = omega arith
room limit false n m free few is = grind (arith, nat_tests)

-- ---- what holds of each

-- of each that is kept
pub all_kept : {E : Type 0} (P Q : E → Type 0) (t : E → Bool) → ((e : E) → P e → t e ≡ true → Q e) → (es : List E) → AllByRecursion P es → AllByRecursion Q (filter t es)
all_kept P Q t weaker [] a = tt
all_kept P Q t weaker (e ∷ es) a = kept (t e) refl (all_kept P Q t weaker es a.1)
  where
    kept : (b : Bool) → t e ≡ b → AllByRecursion Q (filter t es) → AllByRecursion Q (cond b (e ∷ filter t es) (filter t es))
    kept true is r = (weaker e a.0 is, r)
    kept false is r = r

-- of the one at a place
pub all_at : {E : Type 0} (P : E → Type 0) (es : List E) (k : ℕ) (e : E) → AllByRecursion P es → slice_get es k ≡ Some e → P e
all_at P [] k e a is = cc
all_at P (x ∷ es) zero e a is = let same : x ≡ e = cc in subst P same a.0
all_at P (x ∷ es) (suc k) e a is = all_at P es k e a.1 is

-- ---- counts

-- fewer are kept
pub count_kept : {E : Type 0} (t f : E → Bool) (es : List E) → count_by t (filter f es) ≤ count_by t es
count_kept t f [] = omega arith
count_kept t f (e ∷ es) = kept_or_not (f e) (count_kept t f es)
  where
    kept_or_not : (b : Bool) → count_by t (filter f es) ≤ count_by t es → count_by t (cond b (e ∷ filter f es) (filter f es)) ≤ count_by t (e ∷ es)
    kept_or_not true r =
        let c = sum_by-cons (λ x. cond (t x) 1 0) e es in
        let d = sum_by-cons (λ x. cond (t x) 1 0) e (filter f es) in
        rw (c, d) (omega (arith, r))
    kept_or_not false r = let c = sum_by-cons (λ x. cond (t x) 1 0) e es in rw c (omega (arith, r))

-- two tests that agree on each
pub count_same : {E : Type 0} (t u : E → Bool) (es : List E) → AllByRecursion (λ e. t e ≡ u e) es → count_by t es ≡ count_by u es
count_same t u [] h = refl
count_same t u (e ∷ es) h =
    let r = count_same t u es h.1 in
    let c = sum_by-cons (λ x. cond (t x) 1 0) e es in
    let d = sum_by-cons (λ x. cond (u x) 1 0) e es in
    c ∙ (λ i. cond (h.0 i) 1 0 + r i) ∙ sym d

-- ---- what is found

some_cond : {A : Type 0} (b : Bool) (x : A) (o : Option A) → is_some o ≡ true → is_some (cond b (Some x) o) ≡ true
some_cond true x o h = refl
some_cond false x o h = h

number_cond : {A : Type 0} (g : A → ℕ) (n : ℕ) (b : Bool) (x : A) (o : Option A) → (b ≡ true → n ≤ g x) → n ≤ option_map_or g o 0 → n ≤ option_map_or g (cond b (Some x) o) 0
number_cond g n true x o new old = new refl
number_cond g n false x o new old = old

module _ {E : Type 0} (key : E → Key) where
  -- who was on a roll is on it still
  pub found_still : (q : Key) (e : E) (es : List E) → has key q es ≡ true → has key q (put key e es) ≡ true
  found_still q e es h = ap is_some (find-put key q e es) ∙ some_cond (same_key q (key e)) e (find key q es) h

  -- an entry whose number is high enough takes the place of one
  pub number_still : (g : E → ℕ) (n : ℕ) (q : Key) (e : E) (es : List E) → (q ≡ key e → n ≤ g e) → n ≤ option_map_or g (find key q es) 0 → n ≤ option_map_or g (find key q (put key e es)) 0
  number_still g n q e es new old =
      subst (λ (x : Option E). n ≤ option_map_or g x 0) (sym (find-put key q e es))
      (number_cond g n (same_key q (key e)) e (find key q es) (λ tied. new (keys_exact q (key e) (is_equal (key_cmp q (key e)) tied))) old)

  kept_by : (t : E → Bool) (q : Key) (e : E) (es : List E) (kept : Bool) (tied : Bool) → t e ≡ kept → (tied ≡ true → find key q es ≡ None) → find key q (filter t es) ≡ option_filter t (find key q es)
      → same_key q (key e) ≡ tied → find key q (cond kept (e ∷ filter t es) (filter t es)) ≡ option_filter t (cond tied (Some e) (find key q es))
  kept_by t q e es true true k none r s = ap (λ b. cond b (Some e) (find key q (filter t es))) s ∙ sym (ap (λ b. cond b (Some e) None) k)
  kept_by t q e es false true k none r s = r ∙ ap (option_filter t) (none refl) ∙ sym (ap (λ b. cond b (Some e) None) k)
  kept_by t q e es true false k none r s = ap (λ b. cond b (Some e) (find key q (filter t es))) s ∙ r
  kept_by t q e es false false k none r s = r

  -- what is found among those that are kept
  pub find-filter : (t : E → Bool) (q : Key) (es : List E) → rises key es ≡ true → find key q (filter t es) ≡ option_filter t (find key q es)
  find-filter t q [] h = refl
  find-filter t q (e ∷ es) h =
      kept_by t q e es (t e) (same_key q (key e)) refl
      (λ tied. find_below key q es (subst (λ k. is_below key k es ≡ true) (sym (keys_exact q (key e) (is_equal (key_cmp q (key e)) tied))) (first_so (is_below key (key e) es) (rises key es) h)))
      (find-filter t q es (second_so (is_below key (key e) es) (rises key es) h)) refl
