-- What students have, what projects and supervisors cost by their quotas, and how these add up.
use Rattle.std.proofs.Common.{◌≡◌, ℕ, zero, suc, ◌+◌, ◌<◌, ◌≤◌, ◌==◌, inl, inr, List, [], ◌∷◌, length, get_or, count_by, Option, Some, None, refl, sym, ap, ◌∙◌, arith, ℤ, pos, ◌+ℤ◌, ◌-ℤ◌, ◌*ℤ◌}
use Rattle.public_result.proofs.Common.{AllByRecursion, Pair, assigned_pairs, sum_below, sum_of, sum_of-by_key, ints, cases_lt, Posted, Shape, with_lists, holding, list_of, weight, rank, price, offerer, assigned}

-- equal numbers below m have equal sums
pub sum_below_alike : (m : ℕ) (f g : ℕ → ℤ) → ((k : ℕ) → k < m → f k ≡ g k) → sum_below m f ≡ sum_below m g
sum_below_alike zero f g e = refl
sum_below_alike (suc m) f g e =
    let r = sum_below_alike m f g (λ k h. e k (omega arith)) in
    let h : f m ≡ g m = e m (omega arith) in omega (arith, ints, r, h)

-- the first number, and the sum of the others
sum_below_front : (m : ℕ) (f : ℕ → ℤ) → sum_below (suc m) f ≡ f 0 +ℤ sum_below m (λ k. f (suc k))
sum_below_front zero f = omega (arith, ints)
sum_below_front (suc m) f = let r = sum_below_front m f in omega (arith, ints, r)

-- a sum over students, of which those without a project count nothing, is one over the pairs
pub sum_assigned : (value : ℕ → Option ℕ → ℤ) (of_pair : Pair → ℤ) → ((s : ℕ) → value s None ≡ pos 0) → ((s p : ℕ) → value s (Some p) ≡ of_pair (record { student = s; project = p }))
    → (n : ℕ) (ps : List (Option ℕ)) → sum_below (length ps) (λ j. value (n + j) (get_or ps j None)) ≡ sum_of of_pair (assigned_pairs n ps)
sum_assigned value of_pair nothing same n [] = refl
sum_assigned value of_pair nothing same n (x ∷ ps) =
    let front : ℤ = value (n + 0) x in
    let split = sum_below_front (length ps) (λ j. value (n + j) (get_or (x ∷ ps) j None)) in
    let moved : sum_below (length ps) (λ j. value (n + suc j) (get_or ps j None)) ≡ sum_below (length ps) (λ j. value (suc n + j) (get_or ps j None)) =
    sum_below_alike (length ps) (λ j. value (n + suc j) (get_or ps j None)) (λ j. value (suc n + j) (get_or ps j None)) (λ j h. ap (λ (m : ℕ). value m (get_or ps j None)) (omega arith)) in
    split ∙ ap (λ (v : ℤ). front +ℤ v) (moved ∙ sum_assigned value of_pair nothing same (suc n) ps) ∙ ap (λ (m : ℕ). value m x +ℤ sum_of of_pair (assigned_pairs (suc n) ps)) (omega arith) ∙ first x
  where
    first : (x : Option ℕ) → value n x +ℤ sum_of of_pair (assigned_pairs (suc n) ps) ≡ sum_of of_pair (assigned_pairs n (x ∷ ps))
    first None = let e = nothing n in omega (arith, ints, e)
    first (Some p) = ap (λ (v : ℤ). v +ℤ sum_of of_pair (assigned_pairs (suc n) ps)) (same n p)

-- where what has room costs nothing, the prices by the quotas are those by the pairs
pub by_quotas : (m : ℕ) (key : Pair → ℕ) (price : ℕ → ℤ) (q : ℕ → ℕ) (M : List Pair) → AllByRecursion (λ e. key e < m) M
    → ((k : ℕ) → k < m → count_by (λ e. key e == k) M ≤ q k) → ((k : ℕ) → k < m → count_by (λ e. key e == k) M < q k → price k ≡ pos 0)
    → sum_below m (λ k. pos (q k) *ℤ price k) ≡ sum_of (λ e. price (key e)) M
by_quotas m key price q M known within free =
    sum_below_alike m (λ k. pos (q k) *ℤ price k) (λ k. pos (count_by (λ e. key e == k) M) *ℤ price k) same ∙ sym (sum_of-by_key m key price M known)
  where
    same : (k : ℕ) → k < m → pos (q k) *ℤ price k ≡ pos (count_by (λ e. key e == k) M) *ℤ price k
    same k h =
        elim (cases_lt (count_by (λ e. key e == k) M) (q k)) [
          | inl room ↦ let e = free k h room in rw e (omega (arith, ints))
          | inr full ↦ let w = within k h in ap (λ (n : ℕ). pos n *ℤ price k) (omega arith)
        ]

-- what is left of the weights over the costs, and the costs, are the weights
pub costs_added : (a b c : Pair → ℤ) (M : List Pair) → sum_of (λ e. a e -ℤ (b e +ℤ c e)) M +ℤ sum_of b M +ℤ sum_of c M ≡ sum_of a M
costs_added a b c [] = refl
costs_added a b c (e ∷ M) = let r = costs_added a b c M in omega (arith, ints, r)

-- what all students have is what their pairs weigh, less the costs
pub holdings : (t : Posted) (lists : List (List ℕ)) → length lists ≡ length t.students.items → (k : ℕ)
    → sum_below (length lists) (λ s. holding t (list_of (with_lists t lists) s) (get_or t.students.items s None) k)
    ≡ sum_of (λ e. pos (weight (rank (with_lists t lists) e) k) -ℤ (price t.project_prices.items e.project k +ℤ price t.supervisor_prices.items (offerer t e.project) k)) (assigned t)
holdings t lists one_each k =
    let i : Shape = with_lists t lists in
    let ps : List (Option ℕ) = t.students.items in
    let value_of : ℕ → Option ℕ → ℤ = λ s x. holding t (list_of i s) x k in
    let of_pair : Pair → ℤ = λ e. pos (weight (rank i e) k) -ℤ (price t.project_prices.items e.project k +ℤ price t.supervisor_prices.items (offerer t e.project) k) in
    ap (λ (m : ℕ). sum_below m (λ s. value_of s (get_or ps s None))) one_each
    ∙ sum_below_alike (length ps) (λ s. value_of s (get_or ps s None)) (λ s. value_of (0 + s) (get_or ps s None)) (λ s h. ap (λ (m : ℕ). value_of m (get_or ps s None)) (omega arith))
    ∙ sum_assigned value_of of_pair (λ s. refl) (λ s p. refl) 0 ps
