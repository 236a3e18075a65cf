-- Rows that are taken out by their rowids.
use Rattle.sql_tables.proofs.Common.{list_any, AllByRecursion, IsPermutation, list_any-IsPermutation, Row, has_rowid, without_rowid, IsAscending, without_all, Has, id_of, IsKeyed, all_has, all-filter, ascending-filter, ◌≡◌, inl, inr, ℤ, List, [], ◌∷◌, map, filter, Bool, true, false, not, ◌||◌, ◌&&◌, cond, refl, sym, ap, subst, ◌∙◌}
use Rattle.sql_tables.proofs.Rowids.{found_of, both_of}

any_none : {X : Type 0} (q : X → Bool) (ys : List X) → ((y : X) → Has ys y → q y ≡ false) → list_any q ys ≡ false
any_none q [] none = refl
any_none q (y ∷ ys) none = rw (none y (inl refl)) (any_none q ys (λ z h. none z (inr h)))

kept_go : {X : Type 0} (p : X → Bool) (x y : X) (xs : List X) (b : Bool) → (Has (filter p xs) y → Has xs y) → Has (cond b (x ∷ filter p xs) (filter p xs)) y → Has (x ∷ xs) y
kept_go p x y xs true later (inl e) = inl e
kept_go p x y xs true later (inr h) = inr (later h)
kept_go p x y xs false later h = inr (later h)

-- what passes is among what was tested
pub kept_has : {X : Type 0} (p : X → Bool) (xs : List X) (y : X) → Has (filter p xs) y → Has xs y
kept_has p [] y h = h
kept_has p (x ∷ xs) y h = kept_go p x y xs (p x) (kept_has p xs y) h

passes_go : {X : Type 0} (p : X → Bool) (x y : X) (xs : List X) (b : Bool) → p x ≡ b → (Has (filter p xs) y → p y ≡ true) → Has (cond b (x ∷ filter p xs) (filter p xs)) y → p y ≡ true
passes_go p x y xs true is later (inl e) = ap p e ∙ is
passes_go p x y xs true is later (inr h) = later h
passes_go p x y xs false is later h = later h

-- and passes
pub passes : {X : Type 0} (p : X → Bool) (xs : List X) (y : X) → Has (filter p xs) y → p y ≡ true
passes p [] y h = absurd h
passes p (x ∷ xs) y h = passes_go p x y xs (p x) refl (passes p xs y) h

module _ (p : Row → Bool) where
  abbrev Hit : List Row → Row → Bool
  Hit rows r = list_any (λ x. has_rowid (id_of x) r) rows

  head_go : (x : Row) (xs : List Row) (b : Bool) → p x ≡ b → has_rowid (id_of x) x ≡ true → ((y : Row) → Has xs y → has_rowid (id_of y) x ≡ false) → Hit (cond b (x ∷ filter p xs) (filter p xs)) x ≡ p x
  head_go x xs true is own others = rw (own, is) refl
  head_go x xs false is own others = rw is (any_none _ (filter p xs) (λ y h. others y (kept_has p xs y h)))

  tail_go : (x r : Row) (xs : List Row) (b : Bool) → has_rowid (id_of x) r ≡ false → Hit (filter p xs) r ≡ p r → Hit (cond b (x ∷ filter p xs) (filter p xs)) r ≡ p r
  tail_go x r xs true other later = rw other later
  tail_go x r xs false other later = later

  -- a row is hit by the rowids of the rows that pass where it passes
  pub hits : (rows : List Row) → AllByRecursion (λ r. has_rowid (id_of r) r ≡ true) rows → IsAscending (λ a b. (has_rowid (id_of a) b ≡ false) × (has_rowid (id_of b) a ≡ false)) rows
      → (r : Row) → Has rows r → Hit (filter p rows) r ≡ p r
  hits [] found apart r h = absurd h
  hits (x ∷ xs) found apart r (inl is) = subst (λ y. Hit (filter p (x ∷ xs)) y ≡ p y) (sym is) (head_go x xs (p x) refl found.0 (λ y h. (all_has _ xs y apart.0 h).1))
  hits (x ∷ xs) found apart r (inr h) = tail_go x r xs (p x) (all_has _ xs r apart.0 h).0 (hits xs found.1 apart.1 r h)

filter_go : {X : Type 0} (a b : Bool) (x : X) (xs ys : List X) → a ≡ b → xs ≡ ys → ◌≡◌ {A = List X} (cond a (x ∷ xs) xs) (cond b (x ∷ ys) ys)
filter_go a b x xs ys same later = λ i. cond (same i) (x ∷ later i) (later i)

-- tests that agree keep the same
pub filter_same : {X : Type 0} (f g : X → Bool) (xs : List X) → ((x : X) → Has xs x → f x ≡ g x) → filter f xs ≡ filter g xs
filter_same f g [] same = refl
filter_same f g (x ∷ xs) same = filter_go (f x) (g x) x _ _ (same x (inl refl)) (filter_same f g xs (λ y h. same y (inr h)))

filter_true : {X : Type 0} (xs : List X) → filter (λ (x : X). true) xs ≡ xs
filter_true [] = refl
filter_true (x ∷ xs) = ap (λ ys. x ∷ ys) (filter_true xs)

both_go : {X : Type 0} (a : X → Bool) (q : X → Bool) (x : X) (xs ys : List X) (b : Bool) → filter q xs ≡ ys → filter q (cond (not b) (x ∷ xs) xs) ≡ cond (not b && q x) (x ∷ ys) ys
both_go a q x xs ys true later = later
both_go a q x xs ys false later = λ i. cond (q x) (x ∷ later i) (later i)

filter_both : {X : Type 0} (a q : X → Bool) (xs : List X) → filter q (filter (λ x. not (a x)) xs) ≡ filter (λ x. not (a x) && q x) xs
filter_both a q [] = refl
filter_both a q (x ∷ xs) = both_go a q x (filter (λ y. not (a y)) xs) _ (a x) (filter_both a q xs)

not_or : (a b : Bool) → (not a && not b) ≡ not (a || b)
not_or true b = refl
not_or false b = refl

without_is : (ids : List ℤ) (rows : List Row) → without_all rows ids ≡ filter (λ r. not (list_any (λ id. has_rowid id r) ids)) rows
without_is [] rows = sym (filter_true rows)
without_is (id ∷ ids) rows = without_is ids (without_rowid id rows) ∙ filter_both (has_rowid id) _ rows ∙ filter_same _ _ rows (λ r h. not_or (has_rowid id r) _)

any_map : {X Y : Type 0} (q : Y → Bool) (f : X → Y) (xs : List X) → list_any q (map f xs) ≡ list_any (λ x. q (f x)) xs
any_map q f [] = refl
any_map q f (x ∷ xs) = ap (λ b. q (f x) || b) (any_map q f xs)

-- to take out the rowids of the rows that pass is to keep those that don't
pub taken_out : (p : Row → Bool) (rows : List Row) (ids : List ℤ) → IsKeyed rows → IsPermutation (map id_of (filter p rows)) ids → without_all rows ids ≡ filter (λ r. not (p r)) rows
taken_out p rows ids keyed same =
    without_is ids rows ∙ filter_same _ _ rows (λ r h.
    ap not (sym (list_any-IsPermutation (λ id. has_rowid id r) (map id_of (filter p rows)) ids same) ∙ any_map (λ id. has_rowid id r) id_of (filter p rows) ∙ hits p rows (found_of rows keyed.ids) (both_of rows keyed.ids keyed.apart) r h))

-- some of the rows of a keyed table are keyed
pub still_keyed : (p : Row → Bool) (rows : List Row) → IsKeyed rows → IsKeyed (filter p rows)
still_keyed p rows keyed = record { ids = all-filter _ p rows keyed.ids; apart = ascending-filter _ p rows keyed.apart }

-- to keep by what is mapped and to map what is kept is one
pub map_filter : {X Y : Type 0} (h : X → Y) (f : X → Bool) (g : Y → Bool) → ((x : X) → f x ≡ g (h x)) → (xs : List X) → map h (filter f xs) ≡ filter g (map h xs)
map_filter h f g same [] = refl
map_filter h f g same (x ∷ xs) = map_go (f x) (g (h x)) (same x) (map_filter h f g same xs)
  where
    map_go : (a b : Bool) → a ≡ b → map h (filter f xs) ≡ filter g (map h xs) → map h (cond a (x ∷ filter f xs) (filter f xs)) ≡ cond b (h x ∷ filter g (map h xs)) (filter g (map h xs))
    map_go true b e later = subst (λ c. h x ∷ map h (filter f xs) ≡ cond c (h x ∷ filter g (map h xs)) (filter g (map h xs))) e (ap (λ ys. h x ∷ ys) later)
    map_go false b e later = subst (λ c. map h (filter f xs) ≡ cond c (h x ∷ filter g (map h xs)) (filter g (map h xs))) e later
