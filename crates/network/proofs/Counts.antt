-- the counts of one roll, the projects or the supervisors, of which one changes
use Rattle.std.proofs.Common.{◌≡◌, ℕ, ◌+◌, ◌<◌, inl, inr, List, length, set, refl, arith, sym, ◌∙◌, ap, subst, get_or-set_same, get_or-set_other}
use Rattle.network.proofs.Common.{slice_index, nat_eq, cases_eq, eq-eqb, ne_eqb, one_if, project_count, sink_of, Flow}

-- a number is itself
pub itself : (r : ℕ) → one_if (nat_eq r r) ≡ 1
itself r = ap one_if (eq-eqb r r refl)

-- and not another
pub apart : (r v : ℕ) → (r ≡ v → ⊥) → one_if (nat_eq r v) ≡ 0
apart r v ne = ap one_if (ne_eqb r v ne)

-- a project is not the sink
pub not_sink : {G : Type 0} (f : Flow G) (p : ℕ) → p < project_count f → one_if (nat_eq p (sink_of f)) ≡ 0
not_sink f p lt = apart p (sink_of f) (λ e. omega (arith, e, lt))

-- nor is a supervisor
pub node_not_sink : {G : Type 0} (f : Flow G) (l : ℕ) → l < length f.supervisors.items → one_if (nat_eq (project_count f + l) (sink_of f)) ≡ 0
node_not_sink f l lt = apart (project_count f + l) (sink_of f) (λ e. omega (arith, e, lt))

-- equal as far as others are
pub alike : (a b c d : ℕ) → (a ≡ b → c ≡ d) → (c ≡ d → a ≡ b) → one_if (nat_eq a b) ≡ one_if (nat_eq c d)
alike a b c d to back = elim (cases_eq a b) [
  | inl e ↦ ap one_if (eq-eqb a b e ∙ sym (eq-eqb c d (to e)))
  | inr ne ↦ ap one_if (ne_eqb a b ne ∙ sym (ne_eqb c d (λ e. ne (back e))))
]

module _ (was now : List ℕ) (i y : ℕ) (set_is : now ≡ set was i y) (within : i < length was) where
  -- the new count
  pub count_here : slice_index now i ≡ y
  count_here = rw set_is (get_or-set_same was i y 0 within)

  -- the others
  pub count_other : (j : ℕ) → (j ≡ i → ⊥) → slice_index now j ≡ slice_index was j
  count_other j ne = rw set_is (get_or-set_other was i j y 0 ne)

  -- what holds of the one that changed, and of the others as they were, holds of all
  pub each_count : (X : ℕ → ℕ → Type 0) → X i y → ((j : ℕ) → (j ≡ i → ⊥) → X j (slice_index was j)) → (j : ℕ) → X j (slice_index now j)
  each_count X new old j = elim (cases_eq j i) [
    | inl e ↦ subst (λ k. X k (slice_index now k)) (sym e) (subst (X i) (sym count_here) new)
    | inr ne ↦ subst (X j) (sym (count_other j ne)) (old j ne)
  ]

  -- the counts follow where the excess moves from the node a to the node b
  pub counts_follow : (n : ℕ) (node has : ℕ → ℕ) (a b : ℕ) → ((j : ℕ) → j < n → (j ≡ i → ⊥) → one_if (nat_eq (node j) a) ≡ one_if (nat_eq (node j) b))
      → y + one_if (nat_eq (node i) a) ≡ slice_index was i + one_if (nat_eq (node i) b)
      → ((j : ℕ) → j < n → slice_index was j ≡ has j + one_if (nat_eq (node j) a)) → (j : ℕ) → j < n → slice_index now j ≡ has j + one_if (nat_eq (node j) b)
  counts_follow n node has a b others here before = each_count (λ j c. j < n → c ≡ has j + one_if (nat_eq (node j) b))
      (λ lt. omega (arith, before i lt, here)) (λ j ne lt. omega (arith, before j lt, others j lt ne))
