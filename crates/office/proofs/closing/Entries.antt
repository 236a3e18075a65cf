-- Lists of entries: what is counted and found in them and in what is made of them, and how keys rise.
use Rattle.std.proofs.Common.{find}
use Rattle.office.proofs.closing.Common.{AllByRecursion, bytes_eq, cases_Bool, sum_by-cons, Key, same_key, entry, same_code, ◌≡◌, ℕ, ◌≤◌, inl, inr, Bool, true, false, cond, List, [], ◌∷◌, map, count_by, Option, Some, option_map, refl, ap, ◌∙◌, arith}

-- ---- what holds of each

pub all_made : {E D : Type 0} (made : E → D) (P : D → Type 0) (es : List E) → AllByRecursion (λ e. P (made e)) es → AllByRecursion P (map made es)
all_made made P [] a = tt
all_made made P (e ∷ es) a = (a.0, all_made made P es a.1)

pub all_always : {E : Type 0} (P : E → Type 0) → ((e : E) → P e) → (es : List E) → AllByRecursion P es
all_always P h [] = tt
all_always P h (e ∷ es) = (h e, all_always P h es)

-- ---- what is found

map_cond : {E D : Type 0} (f : E → D) (b : Bool) (e : E) (x : Option E) → cond b (Some (f e)) (option_map f x) ≡ option_map f (cond b (Some e) x)
map_cond f true e x = refl
map_cond f false e x = refl

-- what is found by its code among what is made of entries
pub find_made : {E D : Type 0} (key : E → Key) (made : E → D) (code : D → List ℕ) → ((e : E) → key e ≡ (0, code (made e))) → (c : List ℕ) (es : List E)
    → find (λ d. bytes_eq c (code d)) (map made es) ≡ option_map made (entry key (0, c) es)
find_made key made code coded c [] = refl
find_made key made code coded c (e ∷ es) =
    let t : same_key (0, c) (key e) ≡ bytes_eq c (code (made e)) = ap (same_key (0, c)) (coded e) ∙ same_code c (code (made e)) in
    let r = find_made key made code coded c es in
    rw (r, t) (map_cond made (bytes_eq c (code (made e))) e (entry key (0, c) es))

-- ---- counts

-- a count of what is made
pub count_made : {E D : Type 0} (made : E → D) (t : D → Bool) (u : E → Bool) (es : List E) → ((e : E) → t (made e) ≡ u e) → count_by t (map made es) ≡ count_by u es
count_made made t u [] same = refl
count_made made t u (e ∷ es) same =
    let r = count_made made t u es same in
    let h = same e in
    simp (sum_by-cons, h, r)

-- what passes one test passes the other
pub count_fewer : {E : Type 0} (t u : E → Bool) (es : List E) → AllByRecursion (λ e. t e ≡ true → u e ≡ true) es → count_by t es ≤ count_by u es
count_fewer t u [] h = omega arith
count_fewer t u (e ∷ es) h =
    let r = count_fewer t u es h.1 in
    let c = sum_by-cons (λ x. cond (t x) 1 0) e es in
    let d = sum_by-cons (λ x. cond (u x) 1 0) e es in
    elim (cases_Bool (t e)) [
      | inl s ↦ let v = h.0 s in rw (c, d, s, v) (omega (arith, r))
      | inr s ↦ rw (c, d, s) (omega (arith, r))
    ]
