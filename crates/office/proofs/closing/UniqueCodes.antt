-- Codes that stand once in a list, and entries that are found by their codes.
use Rattle.office.proofs.closing.Common.{is_some, AllByRecursion, list_any, prefix_len, bytes_eq, MatchOption, Ordering, Less, Equal, Greater, cases_Bool, prefix_len_is, same_Some, slice_get-get_or, bytes_eq-Decides, Key, key_cmp, same_key, entry, is_below, rises, is_distinct, same_code, keys_total, all_above, all_two, ◌≡◌, ℕ, zero, suc, ◌<◌, inl, inr, true, not, cond, List, [], ◌∷◌, length, map, Option, Some, Contains, slice_get, get_or, refl, sym, ap, ◌∙◌, subst, arith}
use Rattle.std.specs.Cmp.{first_so, second_so}
use Rattle.std.specs.Ordering.{is_lt, is_eq, ordering_reverse}

-- ---- codes that rise are distinct

-- a code's key
abbrev pub code_key : List ℕ → Key
code_key c = (0, c)

less_not_same : (r : Ordering) → is_lt r ≡ true → is_eq r ≡ true → ⊥
less_not_same Less l e = absurd (cc)
less_not_same Equal l e = absurd (cc)
less_not_same Greater l e = absurd (cc)

pub same_as_itself : (c : List ℕ) → same_key (0, c) (0, c) ≡ true
same_as_itself c = same_code c c ∙ (bytes_eq-Decides c c).1 refl

not_below : (c : List ℕ) (cs : List (List ℕ)) (q : ℕ) → is_below code_key (0, c) cs ≡ true → slice_get cs q ≡ Some c → ⊥
not_below c [] q b e = absurd (cc)
not_below c (d ∷ cs) zero b e =
    let P : Option (List ℕ) → Type 0 = λ x. MatchOption x (is_lt (key_cmp (0, c) (0, d)) ≡ true) (λ y. is_lt (key_cmp (0, c) (0, y)) ≡ true) in
    less_not_same (key_cmp (0, c) (0, c)) (subst P e (first_so (is_lt (key_cmp (0, c) (0, d))) (is_below code_key (0, c) cs) b)) (same_as_itself c)
not_below c (d ∷ cs) (suc q) b e = not_below c cs q (second_so (is_lt (key_cmp (0, c) (0, d))) (is_below code_key (0, c) cs) b) e

pub apart_since_rise : (cs : List (List ℕ)) → rises code_key cs ≡ true → (p q : ℕ) → p < q → q < length cs → slice_get cs p ≡ slice_get cs q → ⊥
apart_since_rise [] r p q l h e = absurd (omega (arith, h))
apart_since_rise (c ∷ cs) r p zero l h e = absurd (omega (arith, l))
apart_since_rise (c ∷ cs) r zero (suc q) l h e = not_below c cs q (first_so (is_below code_key (0, c) cs) (rises code_key cs) r) (sym e)
apart_since_rise (c ∷ cs) r (suc p) (suc q) l h e = apart_since_rise cs (second_so (is_below code_key (0, c) cs) (rises code_key cs) r) p q (omega (arith, l)) (omega (arith, h)) e

-- so are those of which none stands twice
not_any : (c : List ℕ) (cs : List (List ℕ)) (q : ℕ) → not (list_any (bytes_eq c) cs) ≡ true → slice_get cs q ≡ Some c → ⊥
not_any c [] q n e = absurd (cc)
not_any c (d ∷ cs) zero n e =
    let same : bytes_eq c d ≡ true = (bytes_eq-Decides c d).1 (sym (same_Some d c e)) in
    absurd (let k = rw same at n in cc)
not_any c (d ∷ cs) (suc q) n e =
    elim (cases_Bool (bytes_eq c d)) [
      | inl t ↦ absurd (let k = rw t at n in cc)
      | inr t ↦ let k = rw t at n in not_any c cs q k e
    ]

pub apart_since_distinct : (cs : List (List ℕ)) → is_distinct cs ≡ true → (p q : ℕ) → p < q → q < length cs → slice_get cs p ≡ slice_get cs q → ⊥
apart_since_distinct [] r p q l h e = absurd (omega (arith, h))
apart_since_distinct (c ∷ cs) r p zero l h e = absurd (omega (arith, l))
apart_since_distinct (c ∷ cs) r zero (suc q) l h e = not_any c cs q (first_so (not (list_any (bytes_eq c) cs)) (is_distinct cs) r) (sym e)
apart_since_distinct (c ∷ cs) r (suc p) (suc q) l h e = apart_since_distinct cs (second_so (not (list_any (bytes_eq c) cs)) (is_distinct cs) r) p q (omega (arith, l)) (omega (arith, h)) e

-- a code that stands once is first found where it stands
pub place_of_code : (xs : List (List ℕ)) (k : ℕ) → is_distinct xs ≡ true → k < length xs → prefix_len (λ q. not (bytes_eq q (get_or xs k []))) xs ≡ k
place_of_code xs k distinct h =
    prefix_len_is (λ q. not (bytes_eq q (get_or xs k []))) xs k [] (omega (arith, h))
    (λ j l.
    (elim (cases_Bool (bytes_eq (get_or xs j []) (get_or xs k []))) [
      | inl t ↦ absurd (apart_since_distinct xs distinct j k l h (slice_get-get_or xs j [] (omega (arith, l, h)) ∙ ap (λ (c : List ℕ). Some c) ((bytes_eq-Decides (get_or xs j []) (get_or xs k [])).0 t) ∙ sym (slice_get-get_or xs k [] h)))
      | inr t ↦ ap not t
    ]))
    (λ _. ap not ((bytes_eq-Decides (get_or xs k []) (get_or xs k [])).1 refl))

-- ---- codes that are found

-- a code that is found stands in what is made of the entries
pub contains_found : {E D : Type 0} (key : E → Key) (made : E → D) (code : D → List ℕ) → ((e : E) → key e ≡ (0, code (made e))) → (c : List ℕ) (es : List E) → is_some (entry key (0, c) es) ≡ true → Contains (map code (map made es)) c
contains_found key made code coded c [] h = absurd (cc)
contains_found key made code coded c (e ∷ es) h =
    let t : same_key (0, c) (key e) ≡ bytes_eq c (code (made e)) = ap (same_key (0, c)) (coded e) ∙ same_code c (code (made e)) in
    elim (cases_Bool (bytes_eq c (code (made e)))) [
      | inl s ↦ (0, omega arith, sym ((bytes_eq-Decides c (code (made e))).0 s))
      | inr s ↦
          let k = rw (t, s) at h in
          let r = contains_found key made code coded c es k in
          (suc r.0, omega (arith, r.1), r.2)
    ]

-- what holds of each holds of what stands at a place
pub all_at : {E : Type 0} (P : E → Type 0) (es : List E) → AllByRecursion P es → (k : ℕ) (e : E) → slice_get es k ≡ Some e → P e
all_at P [] a k e is = absurd (cc)
all_at P (x ∷ es) a zero e is = subst P (same_Some x e is) a.0
all_at P (x ∷ es) a (suc k) e is = all_at P es a.1 k e is

-- ---- each entry is found by its key

module _ {E : Type 0} (key : E → Key) (itself : (e : E) → same_key (key e) (key e) ≡ true) where
  found_later : (x : E) (es : List E) → AllByRecursion (λ e. key_cmp (key x) (key e) ≡ Less) es → AllByRecursion (λ e. entry key (key e) es ≡ Some e) es → AllByRecursion (λ e. entry key (key e) (x ∷ es) ≡ Some e) es
  found_later x es above found = all_two (λ e. key_cmp (key x) (key e) ≡ Less) (λ e. entry key (key e) es ≡ Some e) (λ e. entry key (key e) (x ∷ es) ≡ Some e)
      (λ e l f.
      (let r : key_cmp (key e) (key x) ≡ Greater = keys_total.antisymm (key e) (key x) ∙ ap ordering_reverse l in
      ap (λ o. cond (is_eq o) (Some x) (entry key (key e) es)) r ∙ f)) es above found

  pub each_found : (es : List E) → rises key es ≡ true → AllByRecursion (λ e. entry key (key e) es ≡ Some e) es
  each_found [] r = tt
  each_found (e ∷ es) r =
      let t = itself e in (
        ap (λ b. cond b (Some e) (entry key (key e) es)) t,
        found_later e es (all_above key key (key e) es (first_so (is_below key (key e) es) (rises key es) r)) (each_found es (second_so (is_below key (key e) es) (rises key es) r)),
      )
