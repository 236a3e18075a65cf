-- What `Generous` needs: places of arrays, and what a generous aim reads of them.
use Rattle.std.proofs.Common.{◌≡◌, ℕ, zero, suc, ◌-◌, ◌≤◌, ◌<◌, sym, ap, ◌∙◌, refl, arith, unsigned_abs}
use Rattle.spa.proofs.Common.{ℤ, neg_ℤ, ◌+ℤ◌, ◌-ℤ◌, ◌<ℤ◌, ints, RANKS, COMPONENTS, Generous, Precedes, as_read, at, Places, places_of, row, lex_ops, row-places_of, read_alike}
use Rattle.spa.specs.GenerousLaw.{OrdersByAim}
use Rattle.spa.specs.Reading.{value_read}
use Rattle.spa.proofs.Aims.{read_sum}
use Rattle.spa.proofs.LexOrder.{lex_less_is, row-plus, row-minus, span_at_most}
use Rattle.spa.proofs.Rows.{plus_of, minus_of, le_span}

-- the place that a generous aim reads in the turn of t
abbrev pub mirror : ℕ → ℕ
mirror zero = zero
mirror (suc k) = suc (RANKS - suc k)

-- it is a place
pub mirror_low : (t : ℕ) → t < COMPONENTS → mirror t < COMPONENTS
mirror_low zero h = h
mirror_low (suc k) h = omega arith

-- the place that is read in the turn of the one that is read in the turn of t is t
pub mirror_twice : (t : ℕ) → t < COMPONENTS → mirror (mirror t) ≡ t
mirror_twice zero h = refl
mirror_twice (suc k) h = omega arith

-- what is read has the absolute value of the number there
pub read_abs : (v : ℕ → ℤ) (t : ℕ) → unsigned_abs (as_read Generous v t) ≡ unsigned_abs (v (mirror t))
read_abs v zero = refl
read_abs v (suc k) = omega (arith, ints)

-- and each number has the absolute value of what is read in its turn
pub abs_read : (v : ℕ → ℤ) (t : ℕ) → t < COMPONENTS → unsigned_abs (as_read Generous v (mirror t)) ≡ unsigned_abs (v t)
abs_read v t h = read_abs v (mirror t) ∙ ap (λ (j : ℕ). unsigned_abs (v j)) (mirror_twice t h)

-- a difference is read by place
pub read_rests : (f g : ℕ → ℤ) (t : ℕ) → as_read Generous (λ t. f t -ℤ g t) t ≡ as_read Generous f t -ℤ as_read Generous g t
read_rests f g zero = refl
read_rests f g (suc k) = omega (arith, ints)

-- what is read in the turn of k after the first
pub read_from : (v : ℕ → ℤ) (k : ℕ) → 1 ≤ k → k < COMPONENTS → as_read Generous v k ≡ neg_ℤ (v (COMPONENTS - k))
read_from v zero h l = absurd (omega arith)
read_from v (suc k) h l = let e : suc (RANKS - suc k) ≡ COMPONENTS - suc k = omega arith in ap (λ (j : ℕ). neg_ℤ (v j)) e

-- the greater number there reads as the smaller
pub read_less : (f g : ℕ → ℤ) (k : ℕ) → 1 ≤ k → k < COMPONENTS → g (COMPONENTS - k) <ℤ f (COMPONENTS - k) → as_read Generous f k <ℤ as_read Generous g k
read_less f g k h l less = let a = read_from f k h l in let b = read_from g k h l in omega (arith, ints, a, b)

-- equal numbers read as equal
pub read_equal : (f g : ℕ → ℤ) (k : ℕ) → 1 ≤ k → k < COMPONENTS → f (COMPONENTS - k) ≡ g (COMPONENTS - k) → as_read Generous f k ≡ as_read Generous g k
read_equal f g k h l e = read_from f k h l ∙ ap neg_ℤ e ∙ sym (read_from g k h l)

-- a row by its places
at_place : (h : ℕ → ℤ) (x : Places COMPONENTS) → places_of COMPONENTS h ≡ x → (t : ℕ) → t < COMPONENTS → h t ≡ row COMPONENTS x t
at_place h x e t l = sym (row-places_of COMPONENTS h t l) ∙ ap (λ (z : Places COMPONENTS). row COMPONENTS z t) e

-- the places of what is read of a row that `Lex` has filled with sums
pub generous_plus : (h f g : ℕ → ℤ) (x y : Places COMPONENTS) → places_of COMPONENTS (as_read Generous f) ≡ x → places_of COMPONENTS (as_read Generous g) ≡ y
    → places_of COMPONENTS h ≡ (lex_ops COMPONENTS).plus (places_of COMPONENTS f) (places_of COMPONENTS g) → places_of COMPONENTS (as_read Generous h) ≡ (lex_ops COMPONENTS).plus x y
generous_plus h f g x y ex ey e =
    plus_of COMPONENTS (as_read Generous h) (as_read Generous f) (as_read Generous g) x y ex ey
    (λ t l. read_alike Generous h (λ t. f t +ℤ g t) (λ t l. let p = at_place h _ e t l in let q = row-plus COMPONENTS (places_of COMPONENTS f) (places_of COMPONENTS g) t in let r = row-places_of COMPONENTS f t l in let s = row-places_of COMPONENTS g t l in omega (arith, ints, p, q, r, s)) t l ∙ read_sum Generous f g t)

-- with differences
pub generous_minus : (h f g : ℕ → ℤ) (x y : Places COMPONENTS) → places_of COMPONENTS (as_read Generous f) ≡ x → places_of COMPONENTS (as_read Generous g) ≡ y
    → places_of COMPONENTS h ≡ (lex_ops COMPONENTS).minus (places_of COMPONENTS f) (places_of COMPONENTS g) → places_of COMPONENTS (as_read Generous h) ≡ (lex_ops COMPONENTS).minus x y
generous_minus h f g x y ex ey e =
    minus_of COMPONENTS (as_read Generous h) (as_read Generous f) (as_read Generous g) x y ex ey
    (λ t l. read_alike Generous h (λ t. f t -ℤ g t) (λ t l. let p = at_place h _ e t l in let q = row-minus COMPONENTS (places_of COMPONENTS f) (places_of COMPONENTS g) t in let r = row-places_of COMPONENTS f t l in let s = row-places_of COMPONENTS g t l in omega (arith, ints, p, q, r, s)) t l ∙ read_rests f g t)

-- the span of a row is that of what is read: each number is read in some turn, up to its sign
pub read_span : (f : ℕ → ℤ) (x : Places COMPONENTS) → places_of COMPONENTS (as_read Generous f) ≡ x → (lex_ops COMPONENTS).span (places_of COMPONENTS f) ≡ (lex_ops COMPONENTS).span x
read_span f x ex = both ∙ ap (lex_ops COMPONENTS).span ex
  where
    v : Places COMPONENTS
    v = places_of COMPONENTS (as_read Generous f)

    w : Places COMPONENTS
    w = places_of COMPONENTS f

    low : (lex_ops COMPONENTS).span v ≤ (lex_ops COMPONENTS).span w
    low = span_at_most COMPONENTS v ((lex_ops COMPONENTS).span w) (λ t l.
        let a = read_abs f t in
        let b = ap unsigned_abs (row-places_of COMPONENTS (as_read Generous f) t l) in
        let c = le_span COMPONENTS f (mirror t) (mirror_low t l) in
        omega (arith, a, b, c))

    high : (lex_ops COMPONENTS).span w ≤ (lex_ops COMPONENTS).span v
    high = span_at_most COMPONENTS w ((lex_ops COMPONENTS).span v) (λ t l.
        let a = abs_read f t l in
        let b = ap unsigned_abs (row-places_of COMPONENTS f t l) in
        let c = le_span COMPONENTS (as_read Generous f) (mirror t) (mirror_low t l) in
        omega (arith, a, b, c))

    both : (lex_ops COMPONENTS).span w ≡ (lex_ops COMPONENTS).span v
    both = omega (arith, low, high)

-- ---- the order of an aim

-- rows that are alike come first alike
alike : (n : ℕ) (v w x y : ℕ → ℤ) → ((t : ℕ) → t < n → v t ≡ w t) → ((t : ℕ) → t < n → x t ≡ y t) → Precedes n v x → Precedes n w y
alike n v w x y e f p =
    let a : v p.place ≡ w p.place = e p.place p.in_range in
    let b : x p.place ≡ y p.place = f p.place p.in_range in
    let less : v p.place <ℤ x p.place = p.smaller in
    record {
      place = p.place;
      in_range = p.in_range;
      alike = λ k h. sym (e k (below k h)) ∙ p.alike k h ∙ f k (below k h);
      smaller = omega (arith, ints, a, b, less);
    }
  where
    below : (k : ℕ) → k < p.place → k < n
    below k h = let r = p.in_range in omega (arith, h, r)

-- values that an aim reads from arrays compare as less exactly where the one array comes first
pub orders_by_aim : OrdersByAim
orders_by_aim aim xs ys =
    let f : ℕ → ℤ = as_read aim (at xs) in
    let g : ℕ → ℤ = as_read aim (at ys) in
    let r = row-places_of COMPONENTS f in
    let s = row-places_of COMPONENTS g in
    let is = lex_less_is COMPONENTS (value_read aim xs) (value_read aim ys) in (
      λ less. alike COMPONENTS (row COMPONENTS (value_read aim xs)) f (row COMPONENTS (value_read aim ys)) g r s (is.0 less),
      λ before. is.1 (alike COMPONENTS f (row COMPONENTS (value_read aim xs)) g (row COMPONENTS (value_read aim ys)) (λ t l. sym (r t l)) (λ t l. sym (s t l)) before),
    )
