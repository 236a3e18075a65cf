-- Worths read as rows of numbers.
use Rattle.std.proofs.Common.{◌≡◌, ℕ, zero, suc, ◌<◌, ◌≤◌, inl, inr, ℤ, pos, List, [], ◌∷◌, ◌++◌, length, get_or, cond, Bool, true, false, ap, sym, ◌∙◌, arith, subst}
use Rattle.solver.proofs.Common.{unsigned_abs, neg_ℤ, ◌-◌, cases_lt, get_or_append_left, get_or_push, get_or_past, length_push, COMPONENTS, RANKS, ints, Aim, Greedy, Generous, as_read, at, weight, Places, lex_ops, row, row-places_of, IsLexicographic, price, worth_price, worth_of, AreNumbersOf}
use Rattle.spa.proofs.LexOrder.{row-zero}

-- an aim reads nothing of zero
zero_read : (aim : Aim) (t : ℕ) → as_read aim (row COMPONENTS (lex_ops COMPONENTS).zero) t ≡ pos 0
zero_read aim zero = row-zero COMPONENTS 0
zero_read Greedy (suc k) = row-zero COMPONENTS (suc k)
zero_read Generous (suc k) = ap neg_ℤ (row-zero COMPONENTS (suc (RANKS - suc k)))

-- one row more
pub rows_more : (aim : Aim) (rows : List (List ℤ)) (worths : List (Places COMPONENTS)) (v : List ℤ) (w : Places COMPONENTS) (m : ℕ) → length rows ≡ m
    → ((n t : ℕ) → n < length rows → t < COMPONENTS → price rows n t ≡ as_read aim (row COMPONENTS (worth_price (lex_ops COMPONENTS) worths n)) t)
    → get_or worths m (lex_ops COMPONENTS).zero ≡ w → ((t : ℕ) → t < COMPONENTS → at v t ≡ as_read aim (row COMPONENTS w) t)
    → (n t : ℕ) → n < length (rows ++ v ∷ []) → t < COMPONENTS → price (rows ++ v ∷ []) n t ≡ as_read aim (row COMPONENTS (worth_price (lex_ops COMPONENTS) worths n)) t
rows_more aim rows worths v w m e so_far here numbers n t h low =
    let len = length_push rows v in
    elim (cases_lt n (length rows)) [
      | inl k ↦ ap (λ (r : List ℤ). at r t) (get_or_append_left rows (v ∷ []) [] n k) ∙ so_far n t k low
      | inr k ↦
          let last : n ≡ m = omega (arith, e, len, h) in
          let read : get_or (rows ++ v ∷ []) n [] ≡ v = get_or_push rows v [] n (omega (arith, e, last)) in
          let is : get_or worths n (lex_ops COMPONENTS).zero ≡ w = ap (λ (j : ℕ). get_or worths j (lex_ops COMPONENTS).zero) last ∙ here in
          ap (λ (r : List ℤ). at r t) read ∙ numbers t low ∙ ap (λ (x : Places COMPONENTS). as_read aim (row COMPONENTS x) t) (sym is)
    ]

-- all rows
pub all_rows : (aim : Aim) (rows : List (List ℤ)) (worths : List (Places COMPONENTS)) → length rows ≡ length worths
    → ((n t : ℕ) → n < length rows → t < COMPONENTS → price rows n t ≡ as_read aim (row COMPONENTS (worth_price (lex_ops COMPONENTS) worths n)) t)
    → AreNumbersOf aim rows worths
all_rows aim rows worths e same = record { each = e; same = λ n t low. each n t low }
  where
    each : (n t : ℕ) → t < COMPONENTS → price rows n t ≡ as_read aim (row COMPONENTS (worth_price (lex_ops COMPONENTS) worths n)) t
    each n t low =
        elim (cases_lt n (length rows)) [
          | inl k ↦ same n t k low
          | inr k ↦
              let none : get_or rows n [] ≡ [] = get_or_past rows n [] k in
              let nothing : get_or worths n (lex_ops COMPONENTS).zero ≡ (lex_ops COMPONENTS).zero = get_or_past worths n (lex_ops COMPONENTS).zero (omega (arith, e)) in
              ap (λ (r : List ℤ). at r t) none ∙ sym (zero_read aim t) ∙ ap (λ (x : Places COMPONENTS). as_read aim (row COMPONENTS x) t) (sym nothing)
        ]

-- one or nothing is small
one_or_none : (b : Bool) → unsigned_abs (pos (cond b 1 0)) ≤ 1
one_or_none true = omega arith
one_or_none false = omega arith

-- a weight is small by place
weight_small : (r t : ℕ) → unsigned_abs (pos (weight r t)) ≤ 1
weight_small r zero = omega arith
weight_small r (suc k) = one_or_none _

-- and so it is as an aim reads it
read_small : (aim : Aim) (r t : ℕ) → unsigned_abs (as_read aim (λ t. pos (weight r t)) t) ≤ 1
read_small aim r zero = weight_small r 0
read_small Greedy r (suc k) = weight_small r (suc k)
read_small Generous r (suc k) = let s = weight_small r (suc (RANKS - suc k)) in omega (arith, ints, s)

-- the worth of a pair is small
pub worth_small : IsLexicographic COMPONENTS → (aim : Aim) (r : ℕ) → (lex_ops COMPONENTS).span (worth_of aim r) ≤ 1
worth_small law aim r =
    law.least_span (worth_of aim r) 1 (λ t h. subst (λ (x : ℤ). unsigned_abs x ≤ 1) (sym (row-places_of COMPONENTS (as_read aim (λ t. pos (weight r t))) t h)) (read_small aim r t))
