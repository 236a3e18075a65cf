-- Lists with their worths, read by place.
use Rattle.std.proofs.Common.{◌≡◌, ℕ, zero, suc, ◌+◌, ◌<◌, List, [], ◌∷◌, ◌++◌, length, map, take, slice_index, get_or, All, refl, ap, sym, ◌∙◌, arith, subst}
use Rattle.solver.proofs.Common.{Places, COMPONENTS, worth_of, weighed_from, weighed, Aim}

module _ (aim : Aim) where
  -- one place more
  pub weighed_from-more : (n k : ℕ) (xs : List ℕ) → k < length xs → weighed_from aim n (take (suc k) xs) ≡ weighed_from aim n (take k xs) ++ (slice_index xs k, worth_of aim (n + k)) ∷ []
  weighed_from-more n k [] h = absurd (omega arith)
  weighed_from-more n zero (x ∷ xs) h = ap (λ (m : ℕ). (x, worth_of aim m) ∷ []) (omega arith)
  weighed_from-more n (suc k) (x ∷ xs) h =
      ap (λ ys. (x, worth_of aim n) ∷ ys) (weighed_from-more (suc n) k xs (omega arith)
      ∙ ap (λ (m : ℕ). weighed_from aim (suc n) (take k xs) ++ (slice_index xs k, worth_of aim m) ∷ []) (omega arith))

  -- the projects are those of the list
  pub projects_of-weighed_from : (n : ℕ) (xs : List ℕ) → map (λ e. e.0) (weighed_from aim n xs) ≡ xs
  projects_of-weighed_from n [] = refl
  projects_of-weighed_from n (x ∷ xs) = ap (λ ys. x ∷ ys) (projects_of-weighed_from (suc n) xs)

  -- the same from the first place on
  pub weighed-more : (k : ℕ) (xs : List ℕ) → k < length xs → weighed aim (take (k + 1) xs) ≡ weighed aim (take k xs) ++ (slice_index xs k, worth_of aim (k + 1)) ∷ []
  weighed-more k xs h =
      let one : k + 1 ≡ suc k = omega arith in
      ap (λ (m : ℕ). weighed aim (take m xs)) one ∙ weighed_from-more 1 k xs h ∙ ap (λ (m : ℕ). weighed aim (take k xs) ++ (slice_index xs k, worth_of aim m) ∷ []) (omega arith)

  -- as many as the list has
  pub length-weighed_from : (n : ℕ) (xs : List ℕ) → length (weighed_from aim n xs) ≡ length xs
  length-weighed_from n [] = refl
  length-weighed_from n (x ∷ xs) = ap suc (length-weighed_from (suc n) xs)

  -- the entry at a place
  pub entry-weighed_from : (n k : ℕ) (xs : List ℕ) (d : ℕ × Places COMPONENTS) → k < length xs → get_or (weighed_from aim n xs) k d ≡ (get_or xs k d.0, worth_of aim (n + k))
  entry-weighed_from n k [] d h = absurd (omega arith)
  entry-weighed_from n zero (x ∷ xs) d h = ap (λ (m : ℕ). (x, worth_of aim m)) (omega arith)
  entry-weighed_from n (suc k) (x ∷ xs) d h =
      entry-weighed_from (suc n) k xs d (omega arith) ∙ ap (λ (m : ℕ). (get_or xs k d.0, worth_of aim m)) (omega arith)

  -- what holds of the projects and the worths holds of the entries
  pub all-weighed : (P : ℕ × Places COMPONENTS → Type 0) (list : List ℕ) → ((k d : ℕ) → k < length list → P (get_or list k d, worth_of aim (k + 1))) → All P (weighed aim list)
  all-weighed P list each =
      λ k d h.
      let known : k < length list = subst (λ (n : ℕ). k < n) (length-weighed_from 1 list) h in
      let here : get_or (weighed aim list) k d ≡ (get_or list k d.0, worth_of aim (k + 1)) = entry-weighed_from 1 k list d known ∙ ap (λ (m : ℕ). (get_or list k d.0, worth_of aim m)) (omega arith) in
      subst P (sym here) (each k d.0 known)
