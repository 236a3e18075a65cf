-- What is found among entries after one is put or taken out, and how many there are. The tests of two keys against a
-- third agree where the two tie, since the order of keys is total.
use Rattle.office_model.proofs.Common.{first_so, second_so, AllByRecursion, is_eq, Ordering, Less, Equal, Greater, bytes_eq, alike_right, Key, key_cmp, same_key, by_order, find, has, put, take_out, is_below, rises, ◌≡◌, ℕ, suc, ◌+◌, Bool, true, false, not, cond, List, [], ◌∷◌, length, Option, Some, None, is_some, refl, sym, ap, ◌∙◌, arith}
use Rattle.std.proofs.lemmas.Map.Text.{is_eq-slice_cmp}
use Rattle.std.proofs.lemmas.Slice.Eq.{bytes_eq-Decides}
use Rattle.office_model.proofs.Places.{keys_total, find_below, below_all}

-- bytes are the same where the test says so
pub same_bytes : (a b : List ℕ) → bytes_eq a b ≡ true → a ≡ b
same_bytes a b h = (bytes_eq-Decides a b).0 h

pub bytes_self : (a : List ℕ) → bytes_eq a a ≡ true
bytes_self a = (bytes_eq-Decides a a).1 refl

-- codes under one number are the same where their bytes are
pub same_code : (a b : List ℕ) → same_key (0, a) (0, b) ≡ bytes_eq a b
same_code a b = is_eq-slice_cmp a b

shadowed : {A : Type 0} (b : Bool) (x y z : A) → cond b x z ≡ cond b x (cond b y z)
shadowed true x y z = refl
shadowed false x y z = refl

-- two tests that can't both pass
swapped : {A : Type 0} (a b : Bool) (x y z : A) → (a ≡ true → b ≡ true → true ≡ false) → cond a x (cond b y z) ≡ cond b y (cond a x z)
swapped true true x y z apart = absurd (let e = apart refl refl in cc)
swapped true false x y z apart = refl
swapped false b x y z apart = refl

nothing_left : {A : Type 0} (b : Bool) → ◌≡◌ {A = Option A} None (cond b None None)
nothing_left true = refl
nothing_left false = refl

pub is_equal : (r : Ordering) → is_eq r ≡ true → r ≡ Equal
is_equal Less h = cc
is_equal Equal h = refl
is_equal Greater h = cc

one_added : (n : ℕ) → suc n ≡ n + 1
one_added n = omega arith

suc_both : (b : Bool) (n : ℕ) → suc (cond b n (n + 1)) ≡ cond b (suc n) (suc n + 1)
suc_both true n = refl
suc_both false n = omega arith

module _ {E : Type 0} (key : E → Key) where
  find_by : (q : Key) (e x : E) (xs : List E) (r : Ordering) → key_cmp (key e) (key x) ≡ r → find key q (put key e xs) ≡ cond (same_key q (key e)) (Some e) (find key q xs)
      → find key q (by_order r (e ∷ x ∷ xs) (e ∷ xs) (x ∷ put key e xs)) ≡ cond (same_key q (key e)) (Some e) (cond (same_key q (key x)) (Some x) (find key q xs))
  find_by q e x xs Less c h = refl
  find_by q e x xs Equal c h =
      let alike : key_cmp q (key e) ≡ key_cmp q (key x) = alike_right keys_total (key e) (key x) q c in
      shadowed (same_key q (key e)) (Some e) (Some x) (find key q xs) ∙ ap (λ r. cond (same_key q (key e)) (Some e) (cond (is_eq r) (Some x) (find key q xs))) alike
  find_by q e x xs Greater c h =
      ap (λ o. cond (same_key q (key x)) (Some x) o) h
      ∙ swapped (same_key q (key x)) (same_key q (key e)) (Some x) (Some e) (find key q xs) (λ tied_x tied_e.
      let joined : key_cmp (key e) (key x) ≡ Equal = sym (keys_total.congr q (key e) (key x) (is_equal _ tied_e)) ∙ is_equal _ tied_x in
      cc)

  -- what is found after an entry was put
  pub find-put : (q : Key) (e : E) (es : List E) → find key q (put key e es) ≡ cond (same_key q (key e)) (Some e) (find key q es)
  find-put q e [] = refl
  find-put q e (x ∷ xs) = find_by q e x xs (key_cmp (key e) (key x)) refl (find-put q e xs)

  taken_by : (b : Bool) (q k : Key) (e : E) (es : List E) → same_key k (key e) ≡ b → find key q (take_out key k es) ≡ cond (same_key q k) None (find key q es)
      → find key q (cond (not b) (e ∷ take_out key k es) (take_out key k es)) ≡ cond (same_key q k) None (cond (same_key q (key e)) (Some e) (find key q es))
  taken_by true q k e es c h =
      let alike : key_cmp q k ≡ key_cmp q (key e) = alike_right keys_total k (key e) q (is_equal _ c) in
      h ∙ shadowed (same_key q k) None (Some e) (find key q es) ∙ ap (λ r. cond (same_key q k) None (cond (is_eq r) (Some e) (find key q es))) alike
  taken_by false q k e es c h =
      ap (λ o. cond (same_key q (key e)) (Some e) o) h
      ∙ swapped (same_key q (key e)) (same_key q k) (Some e) None (find key q es) (λ tied_e tied_k.
      let joined : key_cmp k (key e) ≡ Equal = sym (keys_total.congr q k (key e) (is_equal _ tied_k)) ∙ is_equal _ tied_e in
      cc)

  -- what is found after a key was taken out
  pub find-take_out : (q k : Key) (es : List E) → find key q (take_out key k es) ≡ cond (same_key q k) None (find key q es)
  find-take_out q k [] = nothing_left (same_key q k)
  find-take_out q k (e ∷ es) = taken_by (same_key k (key e)) q k e es refl (find-take_out q k es)

  length_by : (e x : E) (xs : List E) (r : Ordering) → key_cmp (key e) (key x) ≡ r → is_below key (key x) xs ≡ true → length (put key e xs) ≡ cond (has key (key e) xs) (length xs) (length xs + 1)
      → length (by_order r (e ∷ x ∷ xs) (e ∷ xs) (x ∷ put key e xs)) ≡ cond (has key (key e) (x ∷ xs)) (length (x ∷ xs)) (length (x ∷ xs) + 1)
  length_by e x xs Less c b h =
      let absent : has key (key e) (x ∷ xs) ≡ false = ap (λ r. is_some (cond (is_eq r) (Some x) (find key (key e) xs))) c ∙ ap is_some (find_below key (key e) xs (below_all key (key e) (key x) xs c b)) in
      one_added (length (x ∷ xs)) ∙ sym (ap (λ t. cond t (length (x ∷ xs)) (length (x ∷ xs) + 1)) absent)
  length_by e x xs Equal c b h = sym (ap (λ r. cond (is_some (cond (is_eq r) (Some x) (find key (key e) xs))) (length (x ∷ xs)) (length (x ∷ xs) + 1)) c)
  length_by e x xs Greater c b h =
      ap suc h ∙ suc_both (has key (key e) xs) (length xs) ∙ sym (ap (λ r. cond (is_some (cond (is_eq r) (Some x) (find key (key e) xs))) (length (x ∷ xs)) (length (x ∷ xs) + 1)) c)

  -- how many there are then
  pub length-put : (e : E) (es : List E) → rises key es ≡ true → length (put key e es) ≡ cond (has key (key e) es) (length es) (length es + 1)
  length-put e [] r = refl
  length-put e (x ∷ xs) r = length_by e x xs (key_cmp (key e) (key x)) refl (first_so (is_below key (key x) xs) (rises key xs) r) (length-put e xs (second_so (is_below key (key x) xs) (rises key xs) r))

  all_by : (P : E → Type 0) (e x : E) (xs : List E) (r : Ordering) → P e → P x → AllByRecursion P xs → AllByRecursion P (put key e xs) → AllByRecursion P (by_order r (e ∷ x ∷ xs) (e ∷ xs) (x ∷ put key e xs))
  all_by P e x xs Less pe px a b = (pe, (px, a))
  all_by P e x xs Equal pe px a b = (pe, a)
  all_by P e x xs Greater pe px a b = (px, b)

  -- what holds of each, holds of each then
  pub all-put : (P : E → Type 0) (e : E) (es : List E) → P e → AllByRecursion P es → AllByRecursion P (put key e es)
  all-put P e [] h a = (h, tt)
  all-put P e (x ∷ xs) h a = all_by P e x xs (key_cmp (key e) (key x)) h a.0 a.1 (all-put P e xs h a.1)

-- a weaker fact
pub all_weaker : {E : Type 0} (P Q : E → Type 0) → ((x : E) → P x → Q x) → (xs : List E) → AllByRecursion P xs → AllByRecursion Q xs
all_weaker P Q w [] a = tt
all_weaker P Q w (x ∷ xs) a = (w x a.0, all_weaker P Q w xs a.1)
