-- Rows of those entries of a roll that have one.
use Rattle.std.proofs.Common.{◌≡◌, ℕ, zero, suc, ◌+◌, ◌-◌, ◌≤◌, ◌⊎◌, inl, inr, List, [], ◌∷◌, ◌++◌, length, replicate, slice_get, Option, Some, None, refl, sym, ap, ◌∙◌, subst, arith}
use Rattle.intake.proofs.Common.{Row, row_before, rows_where, AreFirst, NextPosition, added}

-- the first field of a row
abbrev pub code_of : Row → List ℕ
code_of [] = []
code_of (c ∷ fields) = c

-- a look-up one further
pub less : {X : Type 0} (x : X) (xs : List X) (m n : ℕ) (y : X) → slice_get (x ∷ xs) (suc m + n) ≡ Some y → slice_get xs (m + n) ≡ Some y
less x xs m n y h = (let e : suc m + n ≡ suc (m + n) = omega arith in subst (λ (k : ℕ). slice_get (x ∷ xs) k ≡ Some y) e h)

-- the same of the other part
pub more : {X : Type 0} (x : X) (xs : List X) (m n : ℕ) (y : X) → slice_get (x ∷ xs) (m + suc n) ≡ Some y → slice_get xs (m + n) ≡ Some y
more x xs m n y h = (let e : m + suc n ≡ suc (m + n) = omega arith in subst (λ (k : ℕ). slice_get (x ∷ xs) k ≡ Some y) e h)

-- rows after those of a list
before_append : (o : Option Row) (rows more : List Row) → row_before o (rows ++ more) ≡ row_before o rows ++ more
before_append None rows more = refl
before_append (Some r) rows more = refl

-- where nothing stands there are no rows
pub no_rows : {E X : Type 0} (row : E → X → Option Row) (es : List E) → rows_where row es [] ≡ []
no_rows row [] = refl
no_rows row (e ∷ es) = refl

-- nor more where what follows has none
pub blank_after : {E X : Type 0} (row : E → X → Option Row) (b : X) → ((e : E) → row e b ≡ None) → (es : List E) (xs : List X) (n : ℕ)
    → rows_where row es (xs ++ replicate n b) ≡ rows_where row es xs
blank_after row b h [] xs n = refl
blank_after row b h (e ∷ es) [] zero = refl
blank_after row b h (e ∷ es) [] (suc n) = ap (λ (o : Option Row). row_before o (rows_where row es (replicate n b))) (h e) ∙ blank_after row b h es [] n ∙ no_rows row es
blank_after row b h (e ∷ es) (x ∷ xs) n = ap (row_before (row e x)) (blank_after row b h es xs n)

-- one row more, after entries without one
pub row_pushed : {E X : Type 0} (row : E → X → Option Row) (b : X) (es : List E) (xs : List X) (n : ℕ) (e : E) (x : X) (r : Row) → slice_get es (n + length xs) ≡ Some e
    → (n ≡ 0) ⊎ ((e : E) → row e b ≡ None) → row e x ≡ Some r → rows_where row es (xs ++ replicate n b ++ x ∷ []) ≡ rows_where row es xs ++ r ∷ []
row_pushed row b [] xs n e x r h o w = cc
row_pushed row b (d ∷ es) [] zero e x r h o w =
    let s : d ≡ e = cc in
    ap (λ (k : Option Row). row_before k (rows_where row es [])) (ap (λ y. row y x) s ∙ w) ∙ ap (λ (l : List Row). r ∷ l) (no_rows row es)
row_pushed row b (d ∷ es) [] (suc n) e x r h (inl z) w = absurd (omega arith)
row_pushed row b (d ∷ es) [] (suc n) e x r h (inr o) w =
    ap (λ (k : Option Row). row_before k (rows_where row es (replicate n b ++ x ∷ []))) (o d)
    ∙ row_pushed row b es [] n e x r (less d es n 0 e h) (inr o) w ∙ ap (λ (l : List Row). l ++ r ∷ []) (no_rows row es)
row_pushed row b (d ∷ es) (y ∷ xs) n e x r h o w =
    ap (row_before (row d y)) (row_pushed row b es xs n e x r (more d es n (length xs) e h) o w) ∙ before_append (row d y) (rows_where row es xs) (r ∷ [])

-- what the first entries have fits them, with one more
first_pushed : {E X : Type 0} (Fits : E → X → Type 0) (b : X) (es : List E) (xs : List X) (n : ℕ) (e : E) (x : X) → ((e : E) → Fits e b) → slice_get es (n + length xs) ≡ Some e → AreFirst Fits es xs → Fits e x
    → AreFirst Fits es (xs ++ replicate n b ++ x ∷ [])
first_pushed Fits b [] xs n e x none h a l = cc
first_pushed {E = E} Fits b (d ∷ es) [] zero e x none h a l = (let s : d ≡ e = cc in (subst (λ (y : E). Fits y x) (sym s) l, tt))
first_pushed Fits b (d ∷ es) [] (suc n) e x none h a l = (none d, first_pushed Fits b es [] n e x none (less d es n 0 e h) tt l)
first_pushed Fits b (d ∷ es) (y ∷ xs) n e x none h a l = (a.0, first_pushed Fits b es xs n e x none (more d es n (length xs) e h) a.1 l)

-- the next of a position fits, and adds its row
pub position_pushed : {E X : Type 0} (of : E → X → Option Row) (Fits : E → X → Type 0) (After : ℕ → ℕ → Type 0) (b : X) (es : List E) (xs : List X) (row : Row) (n : ℕ) (x : X)
    → ((m n : ℕ) → After m n → (m ≤ n) × ((n - m ≡ 0) ⊎ ((e : E) → of e b ≡ None))) → ((e : E) → Fits e b) → AreFirst Fits es xs → NextPosition of Fits After es xs row n x
    → AreFirst Fits es (added b xs (n, x)) × (rows_where of es (added b xs (n, x)) ≡ rows_where of es xs ++ row ∷ [])
position_pushed of Fits After b es xs row n x after none first next =
    let a = after (length xs) n next.later in
    let later = a.0 in
    let gap : ℕ = n - length xs in
    let at : slice_get es (gap + length xs) ≡ Some next.entry = (let same : n ≡ gap + length xs = omega arith in subst (λ (m : ℕ). slice_get es m ≡ Some next.entry) same next.here) in
    (first_pushed Fits b es xs gap next.entry x none at first next.fits, row_pushed of b es xs gap next.entry x row at a.1 next.is)

-- the first are no more than all
pub first_few : {E X : Type 0} (Fits : E → X → Type 0) (es : List E) (xs : List X) → AreFirst Fits es xs → length xs ≤ length es
first_few Fits es [] h = omega arith
first_few Fits [] (x ∷ xs) h = absurd h
first_few Fits (e ∷ es) (x ∷ xs) h = (let r = first_few Fits es xs h.1 in omega (arith, r))
