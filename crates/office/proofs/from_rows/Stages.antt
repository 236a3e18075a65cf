-- Rows taken stage by stage are the same rows in another order, in which no row comes before one of an earlier stage.
use Rattle.office.proofs.from_rows.Common.{nat_le, ⊤, IsPermutation, AllByRecursion, nat_tests, filter_passes, recursion_from_All, IsPermutation-refl, IsPermutation-sym, IsPermutation-trans, IsPermutation-cons, IsPermutation-middle, IsPermutation-append_right, IsPermutation-same, all_weaker, RANKS, Number, Table, Choice, Cells, RowOf, place_in, stage_in, stage_of, at_stage, stages, staged, ◌≡◌, ℕ, zero, suc, ◌+◌, ◌<◌, ◌≤◌, Bool, true, false, cond, List, [], ◌∷◌, ◌++◌, refl, sym, ap, arith, subst, ◌==◌}

-- ---- the same rows

-- no stage is past the last
few_by : (place : ℕ) (b : Bool) → nat_le place RANKS ≡ b → cond b place 0 < RANKS + 1
few_by place true h = grind (arith, nat_tests, h)
few_by place false h = omega arith

few_places : (cells : Cells) → place_in cells < RANKS + 1
few_places (a ∷ b ∷ Number place ∷ c ∷ []) = few_by place (nat_le place RANKS) refl
few_places _ = omega arith

few_stages : (t : Table) (cells : Cells) → stage_in t cells < RANKS + 1
few_stages Choice cells = few_places cells
few_stages _ cells = omega arith

module _ (r : RowOf) (rows : List RowOf) where
  -- a row is in none of the stages after its own
  not_later : (n stage : ℕ) → stage_of r < stage → stages n stage (r ∷ rows) ≡ stages n stage rows
  not_later zero stage l = refl
  not_later (suc n) stage l = by (stage_of r == stage) refl (not_later n (suc stage) (omega (arith, l)))
    where
      by : (b : Bool) → (stage_of r == stage) ≡ b → stages n (suc stage) (r ∷ rows) ≡ stages n (suc stage) rows
          → cond b (r ∷ at_stage stage rows) (at_stage stage rows) ++ stages n (suc stage) (r ∷ rows) ≡ at_stage stage rows ++ stages n (suc stage) rows
      by true is h = absurd (grind (arith, nat_tests, is, l))
      by false is h = ap (λ xs. at_stage stage rows ++ xs) h

  -- it is in one of those from an earlier one on
  in_one : (n stage : ℕ) → stage ≤ stage_of r → stage_of r < stage + n → IsPermutation (r ∷ stages n stage rows) (stages n stage (r ∷ rows))
  in_one zero stage from to = absurd (omega (arith, from, to))
  in_one (suc n) stage from to = by (stage_of r == stage) refl (λ later. in_one n (suc stage) later (omega (arith, to)))
    where
      by : (b : Bool) → (stage_of r == stage) ≡ b → (suc stage ≤ stage_of r → IsPermutation (r ∷ stages n (suc stage) rows) (stages n (suc stage) (r ∷ rows)))
          → IsPermutation (r ∷ (at_stage stage rows ++ stages n (suc stage) rows)) (cond b (r ∷ at_stage stage rows) (at_stage stage rows) ++ stages n (suc stage) (r ∷ rows))
      by true is rest = IsPermutation-same _ _ (ap (λ xs. r ∷ (at_stage stage rows ++ xs)) (sym (not_later n (suc stage) (grind (arith, nat_tests, is)))))
      by false is rest =
          IsPermutation-trans _ _ _ (IsPermutation-sym _ _ (IsPermutation-middle (at_stage stage rows) r (stages n (suc stage) rows)))
          (IsPermutation-append_right (at_stage stage rows) _ _ (rest (grind (arith, nat_tests, is, from))))

pub same_staged : (rows : List RowOf) → IsPermutation rows (staged rows)
same_staged [] = IsPermutation-refl _
same_staged (r ∷ rows) = IsPermutation-trans _ _ _ (IsPermutation-cons r _ _ (same_staged rows)) (in_one r rows (RANKS + 1) 0 (omega arith) (omega (arith, few_stages r.table r.cells)))

-- ---- their order

-- a row is of this stage or of a later one
abbrev pub IsNoSooner : ℕ → RowOf → Type 0
IsNoSooner stage r = stage ≤ stage_of r

-- no row comes before one of an earlier stage
abbrev pub AreInStages : List RowOf → Type 0
AreInStages [] = ⊤
AreInStages (r ∷ rows) = AllByRecursion (IsNoSooner (stage_of r)) rows × AreInStages rows

-- so it is with rows of one stage before rows of later ones
stage_then : (stage : ℕ) (xs ys : List RowOf) → AllByRecursion (λ r. (stage_of r == stage) ≡ true) xs → AllByRecursion (IsNoSooner stage) ys → AreInStages ys → AllByRecursion (IsNoSooner stage) (xs ++ ys) × AreInStages (xs ++ ys)
stage_then stage [] ys here later order = (later, order)
stage_then stage (r ∷ xs) ys here later order =
    let same : stage_of r ≡ stage = grind (arith, nat_tests, here.0) in
    let rest = stage_then stage xs ys here.1 later order in
    ((omega (arith, same), rest.0), (subst (λ s. AllByRecursion (IsNoSooner s) (xs ++ ys)) (sym same) rest.0, rest.1))

pub in_stages : (n stage : ℕ) (rows : List RowOf) → AllByRecursion (IsNoSooner stage) (stages n stage rows) × AreInStages (stages n stage rows)
in_stages zero stage rows = (tt, tt)
in_stages (suc n) stage rows =
    let rest = in_stages n (suc stage) rows in
    stage_then stage (at_stage stage rows) (stages n (suc stage) rows) (recursion_from_All (λ r. (stage_of r == stage) ≡ true) _ (filter_passes (λ r. stage_of r == stage) rows))
    (all_weaker (IsNoSooner (suc stage)) (IsNoSooner stage) (λ r later. omega (arith, later)) _ rest.0) rest.1
