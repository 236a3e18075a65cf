-- Entries put one after another: each fact of a put, for all of them.
use Rattle.office.proofs.closing.Common.{AllByRecursion, Ordering, Less, Equal, Greater, sum_by-cons, Key, key_cmp, same_key, by_order, find, put, put_all, rises, find-put, all-put, rises-put, ◌≡◌, ◌+◌, ◌≤◌, Bool, true, false, cond, List, [], ◌∷◌, ◌++◌, count_by, Option, Some, refl, sym, subst, arith}

module _ {E : Type 0} (key : E → Key) where
  -- the keys go on rising
  pub rises_put_all : (xs es : List E) → rises key es ≡ true → rises key (put_all key xs es) ≡ true
  rises_put_all [] es r = r
  rises_put_all (x ∷ xs) es r = rises_put_all xs (put key x es) (rises-put key x es r)

  -- one more is put
  pub put_all_more : (xs es : List E) (x : E) → put_all key (xs ++ x ∷ []) es ≡ put key x (put_all key xs es)
  put_all_more [] es x = refl
  put_all_more (y ∷ xs) es x = put_all_more xs (put key y es) x

  -- what holds of the entries and of those that are put, holds of all
  pub all_put_all : (P : E → Type 0) (xs es : List E) → AllByRecursion P xs → AllByRecursion P es → AllByRecursion P (put_all key xs es)
  all_put_all P [] es a b = b
  all_put_all P (x ∷ xs) es a b = all_put_all P xs (put key x es) a.1 (all-put key P x es a.0 b)

  -- what is found was found before, or was put
  pub found_put_all : (P : Option E → Type 0) (k : Key) (xs es : List E) → AllByRecursion (λ x. P (Some x)) xs → P (find key k es) → P (find key k (put_all key xs es))
  found_put_all P k [] es a b = b
  found_put_all P k (x ∷ xs) es a b = found_put_all P k xs (put key x es) a.1 (subst P (sym (find-put key k x es)) (either (same_key k (key x)) a.0))
    where
      either : (t : Bool) → P (Some x) → P (cond t (Some x) (find key k es))
      either true h = h
      either false h = b

  module _ (t : E → Bool) where
    one_more : (e : E) (es : List E) → count_by t (e ∷ es) ≡ cond (t e) 1 0 + count_by t es
    one_more e es = sum_by-cons (λ x. cond (t x) 1 0) e es

    count_by_order : (e x : E) (xs : List E) (r : Ordering) → count_by t (put key e xs) ≤ cond (t e) 1 0 + count_by t xs → count_by t (by_order r (e ∷ x ∷ xs) (e ∷ xs) (x ∷ put key e xs)) ≤ cond (t e) 1 0 + count_by t (x ∷ xs)
    count_by_order e x xs Less h = omega (arith, one_more e (x ∷ xs))
    count_by_order e x xs Equal h = omega (arith, one_more e xs, one_more x xs)
    count_by_order e x xs Greater h = omega (arith, h, one_more x (put key e xs), one_more x xs)

    count_put : (e : E) (es : List E) → count_by t (put key e es) ≤ cond (t e) 1 0 + count_by t es
    count_put e [] = omega (arith, one_more e [])
    count_put e (x ∷ xs) = count_by_order e x xs (key_cmp (key e) (key x)) (count_put e xs)

    -- no more are counted than of both lists
    pub count_put_all : (xs es : List E) → count_by t (put_all key xs es) ≤ count_by t xs + count_by t es
    count_put_all [] es = omega arith
    count_put_all (x ∷ xs) es = omega (arith, count_put_all xs (put key x es), count_put x es, one_more x xs)
