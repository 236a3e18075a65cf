-- Prices of the rolls, one roll after the other.
use Rattle.std.proofs.Common.{◌≡◌, ℕ, zero, suc, ◌-◌, ◌≤◌, ◌⊎◌, inl, inr, ℤ, pos, negsuc, true, false, not, cond, Bool, List, [], ◌∷◌, ◌++◌, length, map, replicate, Option, Some, None, All, refl, sym, ap, ◌∙◌, subst, arith, append_assoc, append-nil}
use Rattle.intake.proofs.Common.{signed_decimal, ints, map-append, length-append, length-replicate, get_or-replicate, All-nil, All-cons, All-head, All-tail, All-append, All-replicate, COMPONENTS, Kind, Round, Public, IsPrice, ArePricesOrNone, ArePricesUpTo, Row, Priced, price_section, price_row, price_rows, has_line, is_zero_price, HasLine, NoneOrAll, AreFirst, AreUnpriced, ArePricedInOrder, StandsAfter, NextPrice, added, zeros}
use Rattle.intake.proofs.Sections.{NoRows, full, no_full}
use Rattle.intake.proofs.Where.{blank_after, code_of, first_few, no_rows, position_pushed}

-- a price of zeros is zero
pub all_zero : (v : List ℤ) → All (λ n. n ≡ pos 0) v → is_zero_price v ≡ true
all_zero [] h = refl
all_zero (pos zero ∷ v) h = all_zero v (All-tail (λ n. n ≡ pos 0) (pos zero) v h)
all_zero (pos (suc n) ∷ v) h = (let first : pos (suc n) ≡ pos 0 = All-head (λ n. n ≡ pos 0) (pos (suc n)) v h in cc)
all_zero (negsuc n ∷ v) h = (let first : negsuc n ≡ pos 0 = All-head (λ n. n ≡ pos 0) (negsuc n) v h in cc)

-- and only one of zeros is
pub zero_is : (v : List ℤ) → is_zero_price v ≡ true → v ≡ replicate (length v) (pos 0)
zero_is [] h = refl
zero_is (pos zero ∷ v) h = ap (λ (w : List ℤ). pos 0 ∷ w) (zero_is v h)
zero_is (pos (suc n) ∷ v) h = cc
zero_is (negsuc n ∷ v) h = cc

-- a price with a line has this row
pub price_written : (k : Kind) (c : List ℕ) (v : List ℤ) → HasLine k v → price_row k c v ≡ Some (c ∷ map signed_decimal v)
price_written k c v h = ap (λ (b : Bool). cond b (Some (c ∷ map signed_decimal v)) None) h

-- and no other
pub price_is : (k : Kind) (c : List ℕ) (v : List ℤ) (r : Row) → price_row k c v ≡ Some r → HasLine k v × (r ≡ c ∷ map signed_decimal v)
price_is k c v r h = go (has_line k v) refl h
  where
    go : (b : Bool) → has_line k v ≡ b → cond b (let o : Option Row = Some (c ∷ map signed_decimal v) in o) None ≡ Some r → HasLine k v × (r ≡ c ∷ map signed_decimal v)
    go true e h = (e, (let s : c ∷ map signed_decimal v ≡ r = cc in sym s))
    go false e h = cc

-- the code stands first
pub price_head : (k : Kind) (c : List ℕ) (v : List ℤ) (r : Row) → price_row k c v ≡ Some r → code_of r ≡ c
price_head k c v r h = ap code_of (price_is k c v r h).1

-- the price of an entry is after those before it, and what is between has no row
pub price_after : (k : Kind) (m n : ℕ) → StandsAfter k m n → (m ≤ n) × ((n - m ≡ 0) ⊎ ((c : List ℕ) → price_row k c zeros ≡ None))
price_after Round m n h = (omega arith, inl (omega arith))
price_after Public m n h = (h, inr (λ c. refl))

-- more prices have more rows
price_more : (cs : List (List ℕ)) (vs ws : List (List ℤ)) → length vs ≤ length cs → (rest : List Row) × (price_rows Round cs (vs ++ ws) ≡ price_rows Round cs vs ++ rest)
price_more cs [] ws h = (price_rows Round cs ws, ap (λ (l : List Row). l ++ price_rows Round cs ws) (sym (no_rows (price_row Round) cs)))
price_more [] (v ∷ vs) ws h = absurd (omega arith)
price_more (c ∷ cs) (v ∷ vs) ws h = (let m = price_more cs vs ws (omega arith) in (m.0, ap (λ (l : List Row). (c ∷ map signed_decimal v) ∷ l) m.1))

-- without prices there are no rows
pub unpriced_rows : (k : Kind) (xs : List Priced) → AreUnpriced xs → NoRows (map (price_section k) xs)
unpriced_rows k [] h = tt
unpriced_rows k (s ∷ ss) h = (ap (price_rows k s.codes) h.0 ∙ no_rows (price_row k) s.codes, unpriced_rows k ss h.1)

-- rolls without prices may have some
pub unpriced_turn : (k : Kind) (xs : List Priced) → AreUnpriced xs → ArePricedInOrder k xs
unpriced_turn k [] h = tt
unpriced_turn k (s ∷ ss) h = (subst (AreFirst (λ c. IsPrice) s.codes) (sym h.0) tt, inl h.1, unpriced_turn k ss h.1)

-- a price of nothing is one
pub zeros_price : IsPrice zeros
zeros_price = record { numbers = length-replicate COMPONENTS (pos 0); range = λ t h. rw (get_or-replicate COMPONENTS t (pos 0) (pos 0) h) (omega (arith, ints), omega (arith, ints)) }

-- one price more
pub price_pushed : (k : Kind) (cs : List (List ℕ)) (vs : List (List ℤ)) (row : Row) (e : ℕ × List ℤ) → AreFirst (λ c. IsPrice) cs vs → NextPrice k cs vs row e
    → AreFirst (λ c. IsPrice) cs (added zeros vs e) × (price_rows k cs (added zeros vs e) ≡ price_rows k cs vs ++ row ∷ [])
price_pushed k cs vs row e first next = position_pushed (price_row k) (λ c. IsPrice) (StandsAfter k) zeros cs vs row e.0 e.1 (price_after k) (λ c. zeros_price) first next

-- prices of the first of some codes
pub first_prices : (cs : List (List ℕ)) (vs : List (List ℤ)) → AreFirst (λ c. IsPrice) cs vs → ArePricesUpTo (length cs) vs
first_prices cs vs h = record { few = first_few (λ c. IsPrice) cs vs h; prices = go cs vs h }
  where
    go : (cs : List (List ℕ)) (vs : List (List ℤ)) → AreFirst (λ c. IsPrice) cs vs → All IsPrice vs
    go cs [] h = All-nil IsPrice
    go [] (v ∷ vs) h = absurd h
    go (c ∷ cs) (v ∷ vs) h = All-cons IsPrice v vs h.0 (go cs vs h.1)

-- prices, and nothing for each of the rest where there are some
abbrev pub filled : ℕ → List (List ℤ) → List (List ℤ)
filled n [] = []
filled n (v ∷ vs) = v ∷ vs ++ replicate (n - length (v ∷ vs)) zeros

-- they are prices of all or none
pub filled_prices : (n : ℕ) (vs : List (List ℤ)) → ArePricesUpTo n vs → ArePricesOrNone n (filled n vs)
filled_prices n [] a = record { none_or_all = inl refl; prices = a.prices }
filled_prices n (v ∷ vs) a =
    let fill : ℕ = n - length (v ∷ vs) in
    record { none_or_all = inr (omega (arith, length-append vs (replicate fill zeros), length-replicate fill zeros, a.few)); prices = All-append IsPrice (v ∷ vs) (replicate fill zeros) a.prices (All-replicate IsPrice fill zeros zeros_price) }

-- those of all or none stay
pub filled_same : (n : ℕ) (vs : List (List ℤ)) → NoneOrAll n vs → filled n vs ≡ vs
filled_same n [] h = refl
filled_same n (v ∷ vs) (inl h) = cc
filled_same n (v ∷ vs) (inr h) = (let none : n - length (v ∷ vs) ≡ 0 = omega arith in ap (λ (m : ℕ). v ∷ vs ++ replicate m zeros) none ∙ append-nil (v ∷ vs))

-- a roll whose prices are filled
abbrev pub fill : Priced → Priced
fill s = record s { prices = filled (length s.codes) s.prices }

-- of rolls without prices none is
unpriced_filled : (xs : List Priced) → AreUnpriced xs → AreUnpriced (map fill xs)
unpriced_filled [] h = tt
unpriced_filled (s ∷ ss) h = (ap (filled (length s.codes)) h.0, unpriced_filled ss h.1)

-- the filled rolls have more rows
pub all_filled : (xs : List Priced) → ArePricedInOrder Round xs → (more : List Row) × (full (map (price_section Round) (map fill xs)) ≡ full (map (price_section Round) xs) ++ more)
all_filled [] d = ([], refl)
all_filled (s ∷ ss) d = elim d.1 [
  | inl none ↦
      let m = filled_rows s.codes s.prices (first_few (λ c. IsPrice) s.codes s.prices d.0) in
      let before : List Row = map (λ r. s.letter ∷ r) (price_rows Round s.codes s.prices) in
      let rows : map (λ r. s.letter ∷ r) (price_rows Round s.codes (filled (length s.codes) s.prices)) ≡ before ++ map (λ r. s.letter ∷ r) m.0 = ap (map (λ r. s.letter ∷ r)) m.1 ∙ map-append (λ r. s.letter ∷ r) (price_rows Round s.codes s.prices) m.0 in
      (map (λ r. s.letter ∷ r) m.0, rw (rows, no_full (map (price_section Round) (map fill ss)) (unpriced_rows Round (map fill ss) (unpriced_filled ss none)), no_full (map (price_section Round) ss) (unpriced_rows Round ss none)) (simp append-nil))
  | inr all ↦
      let m = all_filled ss d.2 in
      let before : List (List ℤ) → List Row = λ vs. map (λ r. s.letter ∷ r) (price_rows Round s.codes vs) in
      (m.0, ap (λ (vs : List (List ℤ)). before vs ++ full (map (price_section Round) (map fill ss))) (filled_same (length s.codes) s.prices all) ∙ ap (λ (l : List Row). before s.prices ++ l) m.1 ∙ sym (append_assoc (before s.prices) (full (map (price_section Round) ss)) m.0))
]
  where
    filled_rows : (cs : List (List ℕ)) (vs : List (List ℤ)) → length vs ≤ length cs → (more : List Row) × (price_rows Round cs (filled (length cs) vs) ≡ price_rows Round cs vs ++ more)
    filled_rows cs [] h = ([], sym (append-nil (price_rows Round cs [])))
    filled_rows cs (v ∷ vs) h = price_more cs (v ∷ vs) (replicate (length cs - length (v ∷ vs)) zeros) h

-- in a result prices of nothing add no rows
pub filled_lines : (cs : List (List ℕ)) (vs : List (List ℤ)) (n : ℕ) → price_rows Public cs (vs ++ replicate n zeros) ≡ price_rows Public cs vs
filled_lines cs vs n = blank_after (price_row Public) zeros (λ c. refl) cs vs n

-- a price without a row costs nothing, and may be passed over
pub price_skipped : (k : Kind) (c : List ℕ) (v : List ℤ) → IsPrice v → price_row k c v ≡ None → (v ≡ zeros) × ((m n : ℕ) → StandsAfter k m n → StandsAfter k m (suc n))
price_skipped Round c v p h = cc
price_skipped Public c v p h = (zero_is v (is_zero (is_zero_price v) refl h) ∙ ap (λ (n : ℕ). replicate n (pos 0)) p.numbers, λ m n l. omega arith)
  where
    is_zero : (b : Bool) → is_zero_price v ≡ b → cond (not b) (let o : Option Row = Some (c ∷ map signed_decimal v) in o) None ≡ None → is_zero_price v ≡ true
    is_zero true e h = e
    is_zero false e h = cc

-- the prices of n entries in the parts of a text
abbrev pub ArePartsPrices : Kind → ℕ → List (List ℤ) → Type 0
ArePartsPrices Round n vs = ArePricesOrNone n vs
ArePartsPrices Public n vs = ArePricesUpTo n vs
