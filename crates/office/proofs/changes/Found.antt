-- Entries in the order of their keys: each is found at its key, so they are one where they are the same in whatever order.
use Rattle.office.proofs.changes.Common.{IsPermutation, AllByRecursion, first_so, second_so, is_eq, is_lt, ordering_reverse, Ordering, Less, Equal, Greater, false_from_ne_true, All-from_recursion, recursion_from_All, IsPermutation-sym, All-permutation, Key, key_cmp, same_key, find, is_below, rises, is_equal, found_key, holds_of_found, keys_total, keys_exact, same_found, ◌≡◌, true, false, cond, List, [], ◌∷◌, Option, Some, None, refl, sym, ap, subst, ◌∙◌}

-- no order is its own converse but that of equals
own_order : (r : Ordering) → r ≡ ordering_reverse r → r ≡ Equal
own_order Less h = cc
own_order Equal h = refl
own_order Greater h = cc

-- a key is the same as itself
pub same_self : (k : Key) → same_key k k ≡ true
same_self k = ap is_eq (own_order (key_cmp k k) (keys_total.antisymm k k))

-- and not as a lesser one
not_less : (k q : Key) → is_lt (key_cmp k q) ≡ true → same_key q k ≡ false
not_less k q low = false_from_ne_true (same_key q k) (λ h. (let same : is_lt (key_cmp k k) ≡ true = subst (λ x. is_lt (key_cmp k x) ≡ true) (keys_exact q k (is_equal _ h)) low in let e : is_lt (key_cmp k k) ≡ false = ap is_lt (own_order (key_cmp k k) (keys_total.antisymm k k)) in cc))

module _ {E : Type 0} (key : E → Key) where
  -- an entry is found at its key
  abbrev pub StandsIn : List E → E → Type 0
  StandsIn es e = find key (key e) es ≡ Some e

  -- it is found after a lesser one too
  later : (x : E) (xs es : List E) → is_below key (key x) es ≡ true → AllByRecursion (StandsIn xs) es → AllByRecursion (StandsIn (x ∷ xs)) es
  later x xs [] below all = tt
  later x xs (e ∷ es) below all = (
    ap (λ b. cond b (Some x) (find key (key e) xs)) (not_less (key x) (key e) (first_so (is_lt (key_cmp (key x) (key e))) (is_below key (key x) es) below)) ∙ all.0,
    later x xs es (second_so (is_lt (key_cmp (key x) (key e))) (is_below key (key x) es) below) all.1,
  )

  -- each entry is found at its key
  pub each_found : (es : List E) → rises key es ≡ true → AllByRecursion (StandsIn es) es
  each_found [] r = tt
  each_found (x ∷ xs) r = (
    ap (λ b. cond b (Some x) (find key (key x) xs)) (same_self (key x)),
    later x xs xs (first_so (is_below key (key x) xs) (rises key xs) r) (each_found xs (second_so (is_below key (key x) xs) (rises key xs) r)),
  )

  -- so what is found among entries is found among the same in another order
  found_too : (es fs : List E) → rises key es ≡ true → IsPermutation es fs → (q : Key) (e : E) → find key q fs ≡ Some e → find key q es ≡ Some e
  found_too es fs r same q e h =
      let all : AllByRecursion (StandsIn es) fs = recursion_from_All (StandsIn es) fs (All-permutation (StandsIn es) es fs same (All-from_recursion (StandsIn es) es (each_found es r))) in
      subst (λ k. find key k es ≡ Some e) (sym (found_key key q fs e h)) (holds_of_found key (StandsIn es) q fs e all h)

  -- two look-ups that find the same are one
  pub by_found : (x y : Option E) → ((e : E) → x ≡ Some e → y ≡ Some e) → ((e : E) → y ≡ Some e → x ≡ Some e) → x ≡ y
  by_found None None f g = refl
  by_found None (Some e) f g = g e refl
  by_found (Some e) y f g = sym (f e refl)

  -- entries in the order of their keys are one where they are the same in whatever order
  pub entries_same : (es fs : List E) → rises key es ≡ true → rises key fs ≡ true → IsPermutation es fs → es ≡ fs
  entries_same es fs re rf same =
      same_found key es fs re rf (λ q. by_found (find key q es) (find key q fs) (found_too fs es rf (IsPermutation-sym _ _ same) q) (found_too es fs re same q))
