-- Sums of worths, place by place.
use Rattle.std.proofs.Common.{◌≡◌, ℕ, zero, suc, ◌+◌, ◌-◌, ◌<◌, ◌==◌, ℤ, pos, ◌+ℤ◌, ◌*ℤ◌, List, [], ◌∷◌, length, map, slice_index_or, slice_get, get_or, cond, Option, Some, None, refl, ap, sym, ◌∙◌, arith, subst}
use Rattle.solver.proofs.Common.{ints, sum_by-cons, COMPONENTS, RANKS, sum_below, as_read, plus, Aim, Greedy, Generous, neg_ℤ, read_alike, read_sum, Shape, IsPlaceOf, list_of, choice_at, project_quota, supervisor_quota, Pair, pairs_from, rank, rank_in, weight, weight_row, value, Places, lex_ops, row, row-places_of, IsLexicographic, sum_of, multiple, price_total, worth_at, total_worth, worth_of, weighed_from, weighed}
use Rattle.spa.proofs.Sums.{sum_below_same}

-- one pair more
pair_weighs : (i : Shape) (t : ℕ) (e : Pair) (M : List Pair) → pos (weight (rank i e) t) +ℤ weight_row i M t ≡ weight_row i (e ∷ M) t
pair_weighs i zero e M = omega (arith, ints)
pair_weighs i (suc j) e M = let s = sum_by-cons (λ (e : Pair). cond (rank i e == j + 1) 1 0) e M in omega (arith, ints, s)

-- the worth of the project with k before it in a list with its worths
worth_after : (aim : Aim) (n k : ℕ) (xs : List ℕ) → k < length xs → (slice_index_or (weighed_from aim n xs) k (0, (lex_ops COMPONENTS).zero)).1 ≡ worth_of aim (n + k)
worth_after aim n k [] h = absurd (omega arith)
worth_after aim n zero (x ∷ xs) h = ap (worth_of aim) (omega arith)
worth_after aim n (suc k) (x ∷ xs) h = worth_after aim (suc n) k xs (omega arith) ∙ ap (worth_of aim) (omega arith)

-- the worth at a place of a list is that of its rank
worth_at-weighed : (aim : Aim) (k : ℕ) (xs : List ℕ) → IsPlaceOf xs k → worth_at (lex_ops COMPONENTS) (weighed aim xs) k ≡ worth_of aim k
worth_at-weighed aim k xs h = worth_after aim 1 (k - 1) xs (omega arith) ∙ ap (worth_of aim) (omega arith)

-- an aim reads no pairs as nothing
nothing_read : (aim : Aim) (i : Shape) (t : ℕ) → t < COMPONENTS → pos 0 ≡ as_read aim (weight_row i []) t
nothing_read aim i zero h = refl
nothing_read Greedy i (suc k) h = refl
nothing_read Generous i (suc k) h = refl

-- and one pair more
pair_read : (aim : Aim) (i : Shape) (t : ℕ) → t < COMPONENTS → (e : Pair) (M : List Pair) → as_read aim (λ t. pos (weight (rank i e) t)) t +ℤ as_read aim (weight_row i M) t ≡ as_read aim (weight_row i (e ∷ M)) t
pair_read aim i t h e M = sym (read_sum aim (λ t. pos (weight (rank i e) t)) (weight_row i M) t) ∙ read_alike aim (plus (λ t. pos (weight (rank i e) t)) (weight_row i M)) (weight_row i (e ∷ M)) (λ s _. pair_weighs i s e M) t h

-- a sum of numbers that are read, negated
sum_below-neg : (n : ℕ) (f : ℕ → ℤ) → sum_below n (λ k. neg_ℤ (f k)) ≡ neg_ℤ (sum_below n f)
sum_below-neg zero f = refl
sum_below-neg (suc n) f = let r = sum_below-neg n f in omega (arith, ints, r)

-- a product with a number that is negated
times-neg : (n : ℕ) (x : ℤ) → pos n *ℤ neg_ℤ x ≡ neg_ℤ (pos n *ℤ x)
times-neg zero x = omega (arith, ints)
times-neg (suc n) x = let r = times-neg n x in omega (arith, ints, r)

-- prices that are the same at a place add up to the same there
value_same : (i : Shape) (u y z a b c : ℕ → ℕ → ℤ) (t : ℕ) → ((n : ℕ) → u n t ≡ a n t) → ((n : ℕ) → y n t ≡ b n t) → ((n : ℕ) → z n t ≡ c n t) → value i u y z t ≡ value i a b c t
value_same i u y z a b c t us ys zs =
    let first : sum_below (length i.students) (λ s. u s t) ≡ sum_below (length i.students) (λ s. a s t) = sum_below_same (length i.students) (λ s. u s t) (λ s. a s t) us in
    let second : sum_below (length i.projects) (λ p. pos (project_quota i p) *ℤ y p t) ≡ sum_below (length i.projects) (λ p. pos (project_quota i p) *ℤ b p t) =
    sum_below_same (length i.projects) (λ p. pos (project_quota i p) *ℤ y p t) (λ p. pos (project_quota i p) *ℤ b p t) (λ p. ap (λ (x : ℤ). pos (project_quota i p) *ℤ x) (ys p)) in
    let third : sum_below (length i.supervisors) (λ l. pos (supervisor_quota i l) *ℤ z l t) ≡ sum_below (length i.supervisors) (λ l. pos (supervisor_quota i l) *ℤ c l t) =
    sum_below_same (length i.supervisors) (λ l. pos (supervisor_quota i l) *ℤ z l t) (λ l. pos (supervisor_quota i l) *ℤ c l t) (λ l. ap (λ (x : ℤ). pos (supervisor_quota i l) *ℤ x) (zs l)) in
    omega (arith, ints, first, second, third)

-- prices that an aim reads add up to what it reads of their total
value_as_read : (aim : Aim) (i : Shape) (a b c : ℕ → ℕ → ℤ) (t : ℕ) → value i (λ n. as_read aim (a n)) (λ n. as_read aim (b n)) (λ n. as_read aim (c n)) t ≡ as_read aim (value i a b c) t
value_as_read aim i a b c zero = refl
value_as_read Greedy i a b c (suc k) = refl
value_as_read Generous i a b c (suc k) =
    let m : ℕ = suc (RANKS - suc k) in
    let first = sum_below-neg (length i.students) (λ s. a s m) in
    let second : sum_below (length i.projects) (λ p. pos (project_quota i p) *ℤ neg_ℤ (b p m)) ≡ neg_ℤ (sum_below (length i.projects) (λ p. pos (project_quota i p) *ℤ b p m)) =
    sum_below_same (length i.projects) (λ p. pos (project_quota i p) *ℤ neg_ℤ (b p m)) (λ p. neg_ℤ (pos (project_quota i p) *ℤ b p m)) (λ p. times-neg (project_quota i p) (b p m)) ∙ sum_below-neg (length i.projects) (λ p. pos (project_quota i p) *ℤ b p m) in
    let third : sum_below (length i.supervisors) (λ l. pos (supervisor_quota i l) *ℤ neg_ℤ (c l m)) ≡ neg_ℤ (sum_below (length i.supervisors) (λ l. pos (supervisor_quota i l) *ℤ c l m)) =
    sum_below_same (length i.supervisors) (λ l. pos (supervisor_quota i l) *ℤ neg_ℤ (c l m)) (λ l. neg_ℤ (pos (supervisor_quota i l) *ℤ c l m)) (λ l. times-neg (supervisor_quota i l) (c l m)) ∙ sum_below-neg (length i.supervisors) (λ l. pos (supervisor_quota i l) *ℤ c l m) in
    omega (arith, ints, first, second, third)

module _ (law : IsLexicographic COMPONENTS) where
  -- a sum of worths, by place
  pub row-sum_of : (n : ℕ) (f : ℕ → Places COMPONENTS) (t : ℕ) → row COMPONENTS (sum_of (lex_ops COMPONENTS) n f) t ≡ sum_below n (λ k. row COMPONENTS (f k) t)
  row-sum_of zero f t = law.zero t
  row-sum_of (suc n) f t =
      let r = row-sum_of n f t in
      law.plus (sum_of (lex_ops COMPONENTS) n f) (f n) t ∙ ap (λ (x : ℤ). x +ℤ row COMPONENTS (f n) t) r

  -- a multiple of a worth, by place
  pub row-multiple : (n : ℕ) (x : Places COMPONENTS) (t : ℕ) → row COMPONENTS (multiple (lex_ops COMPONENTS) n x) t ≡ pos n *ℤ row COMPONENTS x t
  row-multiple zero x t = let z = law.zero t in omega (arith, ints, z)
  row-multiple (suc n) x t =
      let r = row-multiple n x t in
      let s = law.plus (multiple (lex_ops COMPONENTS) n x) x t in
      omega (arith, ints, r, s)

  -- rows of prices add up to the row of the worths' total
  pub value_is : (i : Shape) (u y z : ℕ → ℕ → ℤ) (a b c : ℕ → Places COMPONENTS) (t : ℕ)
      → ((n : ℕ) → u n t ≡ row COMPONENTS (a n) t) → ((n : ℕ) → y n t ≡ row COMPONENTS (b n) t) → ((n : ℕ) → z n t ≡ row COMPONENTS (c n) t)
      → value i u y z t ≡ row COMPONENTS (price_total (lex_ops COMPONENTS) i a b c) t
  value_is i u y z a b c t us ys zs =
      let o = lex_ops COMPONENTS in
      let A : Places COMPONENTS = sum_of o (length i.students) a in
      let B : Places COMPONENTS = sum_of o (length i.projects) (λ p. multiple o (project_quota i p) (b p)) in
      let C : Places COMPONENTS = sum_of o (length i.supervisors) (λ l. multiple o (supervisor_quota i l) (c l)) in
      let first : sum_below (length i.students) (λ s. u s t) ≡ row COMPONENTS A t = sum_below_same (length i.students) (λ s. u s t) (λ s. row COMPONENTS (a s) t) us ∙ sym (row-sum_of (length i.students) a t) in
      let second : sum_below (length i.projects) (λ p. pos (project_quota i p) *ℤ y p t) ≡ row COMPONENTS B t =
      sum_below_same (length i.projects) (λ p. pos (project_quota i p) *ℤ y p t) (λ p. row COMPONENTS (multiple o (project_quota i p) (b p)) t) (λ p. ap (λ (x : ℤ). pos (project_quota i p) *ℤ x) (ys p) ∙ sym (row-multiple (project_quota i p) (b p) t)) ∙ sym (row-sum_of (length i.projects) (λ p. multiple o (project_quota i p) (b p)) t) in
      let third : sum_below (length i.supervisors) (λ l. pos (supervisor_quota i l) *ℤ z l t) ≡ row COMPONENTS C t =
      sum_below_same (length i.supervisors) (λ l. pos (supervisor_quota i l) *ℤ z l t) (λ l. row COMPONENTS (multiple o (supervisor_quota i l) (c l)) t) (λ l. ap (λ (x : ℤ). pos (supervisor_quota i l) *ℤ x) (zs l) ∙ sym (row-multiple (supervisor_quota i l) (c l) t)) ∙ sym (row-sum_of (length i.supervisors) (λ l. multiple o (supervisor_quota i l) (c l)) t) in
      let e = law.plus (o.plus A B) C t in
      let f = law.plus A B t in
      omega (arith, ints, first, second, third, e, f)

  -- prices whose rows the aim reads from worths add up to what it reads of their total
  pub value_read : (aim : Aim) (i : Shape) (u y z : ℕ → ℕ → ℤ) (a b c : ℕ → Places COMPONENTS)
      → ((n t : ℕ) → t < COMPONENTS → u n t ≡ as_read aim (row COMPONENTS (a n)) t) → ((n t : ℕ) → t < COMPONENTS → y n t ≡ as_read aim (row COMPONENTS (b n)) t) → ((n t : ℕ) → t < COMPONENTS → z n t ≡ as_read aim (row COMPONENTS (c n)) t)
      → (t : ℕ) → t < COMPONENTS → value i u y z t ≡ as_read aim (row COMPONENTS (price_total (lex_ops COMPONENTS) i a b c)) t
  value_read aim i u y z a b c us ys zs t h =
      let r : (ℕ → Places COMPONENTS) → ℕ → ℕ → ℤ = λ f n. row COMPONENTS (f n) in
      value_same i u y z (λ n. as_read aim (r a n)) (λ n. as_read aim (r b n)) (λ n. as_read aim (r c n)) t (λ n. us n t h) (λ n. ys n t h) (λ n. zs n t h)
      ∙ value_as_read aim i (r a) (r b) (r c) t
      ∙ read_alike aim (value i (r a) (r b) (r c)) (row COMPONENTS (price_total (lex_ops COMPONENTS) i a b c)) (λ s _. value_is i (r a) (r b) (r c) a b c s (λ n. refl) (λ n. refl) (λ n. refl)) t h

  -- the worths of places in lists add up to the weights of their pairs
  weights_from : (aim : Aim) (i : Shape) (t : ℕ) → t < COMPONENTS → (n : ℕ) (xss : List (List ℕ)) (ks : List (Option ℕ))
      → ((j : ℕ) → j < length xss → list_of i (n + j) ≡ get_or xss j [])
      → ((j k : ℕ) → slice_get ks j ≡ Some (Some k) → IsPlaceOf (list_of i (n + j)) k)
      → ((s k : ℕ) → IsPlaceOf (list_of i s) k → rank_in (list_of i s) (choice_at (list_of i s) k) ≡ k)
      → row COMPONENTS (total_worth (lex_ops COMPONENTS) (map (weighed aim) xss) ks) t ≡ as_read aim (weight_row i (pairs_from n xss ks)) t
  weights_from aim i t h n [] ks same small rank = law.zero t ∙ nothing_read aim i t h
  weights_from aim i t h n (xs ∷ xss) [] same small rank = law.zero t ∙ nothing_read aim i t h
  weights_from aim i t h n (xs ∷ xss) (None ∷ ks) same small rank =
      weights_from aim i t h (suc n) xss ks
      (λ j l. ap (list_of i) (omega arith) ∙ same (suc j) (omega arith))
      (λ j k e. subst (λ (m : ℕ). IsPlaceOf (list_of i m) k) (omega arith) (small (suc j) k e))
      rank
  weights_from aim i t h n (xs ∷ xss) (Some k ∷ ks) same small rank =
      let o = lex_ops COMPONENTS in
      let rest : row COMPONENTS (total_worth o (map (weighed aim) xss) ks) t ≡ as_read aim (weight_row i (pairs_from (suc n) xss ks)) t =
      weights_from aim i t h (suc n) xss ks
      (λ j l. ap (list_of i) (omega arith) ∙ same (suc j) (omega arith))
      (λ j k e. subst (λ (m : ℕ). IsPlaceOf (list_of i m) k) (omega arith) (small (suc j) k e))
      rank in
      let here : list_of i n ≡ xs = ap (list_of i) (omega arith) ∙ same 0 (omega arith) in
      let inside : IsPlaceOf (list_of i n) k = subst (λ (m : ℕ). IsPlaceOf (list_of i m) k) (omega arith) (small 0 k refl) in
      let e : Pair = record { student = n; project = choice_at xs k } in
      let ranked : rank_in (list_of i n) (choice_at xs k) ≡ k = subst (λ (ys : List ℕ). rank_in (list_of i n) (choice_at ys k) ≡ k) here (rank n k inside) in
      let worth : worth_at o (weighed aim xs) k ≡ worth_of aim k = worth_at-weighed aim k xs (subst (λ (ys : List ℕ). IsPlaceOf ys k) here inside) in
      let one : row COMPONENTS (worth_at o (weighed aim xs) k) t ≡ as_read aim (λ t. pos (weight (rank_in (list_of i n) (choice_at xs k)) t)) t =
      ap (λ (x : Places COMPONENTS). row COMPONENTS x t) worth ∙ row-places_of COMPONENTS (as_read aim (λ t. pos (weight k t))) t h ∙ ap (λ (r : ℕ). as_read aim (λ t. pos (weight r t)) t) (sym ranked) in
      let more = law.plus (worth_at o (weighed aim xs) k) (total_worth o (map (weighed aim) xss) ks) t in
      more ∙ ap (λ (x : ℤ). x +ℤ row COMPONENTS (total_worth o (map (weighed aim) xss) ks) t) one ∙ ap (λ (x : ℤ). as_read aim (λ t. pos (weight (rank_in (list_of i n) (choice_at xs k)) t)) t +ℤ x) rest ∙ pair_read aim i t h e (pairs_from (suc n) xss ks)

  -- the worths of all places add up to what their pairs weigh
  pub weight_is : (aim : Aim) (i : Shape) (ks : List (Option ℕ))
      → ((s k : ℕ) → slice_get ks s ≡ Some (Some k) → IsPlaceOf (list_of i s) k)
      → ((s k : ℕ) → IsPlaceOf (list_of i s) k → rank_in (list_of i s) (choice_at (list_of i s) k) ≡ k)
      → (t : ℕ) → t < COMPONENTS → row COMPONENTS (total_worth (lex_ops COMPONENTS) (map (weighed aim) i.students) ks) t ≡ as_read aim (weight_row i (pairs_from 0 i.students ks)) t
  weight_is aim i ks small rank t h =
      weights_from aim i t h 0 i.students ks (λ j l. ap (list_of i) (omega arith)) (λ j k e. subst (λ (m : ℕ). IsPlaceOf (list_of i m) k) (omega arith) (small j k e)) rank
