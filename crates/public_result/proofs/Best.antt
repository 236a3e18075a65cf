-- What everybody checks and what each student checks make prices that prove the posted pairs best: a student's price is what
-- the student has.
use Rattle.std.proofs.Common.{◌≡◌, ℕ, ◌<◌, ◌≤◌, List, [], length, get_or, All, AllPairs, ◌≢◌, Contains, Option, None, refl, subst, arith, ℤ, pos, ◌*ℤ◌}
use Rattle.public_result.proofs.Common.{AreContent, IsCleared, IsContent, PostedIsBest, holding, assigned, with_lists, worth, Posted, IsSumOrder, NoLater, best_from_prices, each_from, listed_project, listed_student, total_weight_is, within_all, sum_of, aim_sums, best_from_unbeaten, IsMatching, Pair, rank, rank_in, weight, weight_row, RowOrder, order, plus, sum_below, ProveBest, value, IsSound, Shape, list_of, project_quota, supervisor_of, supervisor_quota, COMPONENTS, RANKS, ints, get_or_default, All-from_recursion, AllByRecursion, price}
use Rattle.public_result.proofs.Assigned.{assigned_each, assigned_once}
use Rattle.public_result.proofs.Sums.{holdings, by_quotas, costs_added}

module _ (by : RowOrder) (o : IsSumOrder by) (t : Posted) (lists : List (List ℕ)) (cleared : IsCleared by t) (content : AreContent by t lists) where
  -- the instance of the lists
  abbrev i : Shape
  i = with_lists t lists

  -- the pairs
  abbrev M : List Pair
  M = assigned t

  -- what a student is assigned
  abbrev project_of : ℕ → Option ℕ
  project_of s = get_or t.students.items s None

  -- by place: the prices
  abbrev u : ℕ → ℕ → ℤ
  u s = holding t (list_of i s) (project_of s)

  abbrev y : ℕ → ℕ → ℤ
  y = price t.project_prices.items

  abbrev z : ℕ → ℕ → ℤ
  z = price t.supervisor_prices.items

  -- what a student checked
  own : (s : ℕ) → s < length lists → IsContent by t (list_of i s) (project_of s)
  own s h = content.each s h

  -- the lists are sound
  sound : IsSound i
  sound = record {
    offered = cleared.placed.known.offered;
    ranked = λ s d h. subst (λ (xs : List ℕ). 0 < length xs) (get_or_default lists s [] d h) (own s h).sound.ranked;
    within = λ s d h. subst (λ (xs : List ℕ). length xs ≤ RANKS) (get_or_default lists s [] d h) (own s h).sound.within;
    known = λ s d h. subst (λ (xs : List ℕ). All (λ p. p < length t.projects.items) xs) (get_or_default lists s [] d h) (own s h).sound.known;
    distinct = λ s d h. subst (λ (xs : List ℕ). AllPairs (λ p q. p ≢ q) xs) (get_or_default lists s [] d h) (own s h).sound.distinct;
  }

  -- each pair is listed
  listed : AllByRecursion (λ e. Contains (list_of i e.student) e.project) M
  listed = assigned_each (λ e. Contains (list_of i e.student) e.project) 0 t.students.items
      (λ j p h e. subst (λ (m : ℕ). Contains (list_of i m) p) (omega arith) ((own j (omega (arith, h, content.one_each))).listed p e))

  -- of known projects
  projects : AllByRecursion (λ e. e.project < length t.projects.items) M
  projects = each_from (λ (e : Pair). Contains (list_of i e.student) e.project) (λ e. e.project < length t.projects.items) (λ e c. listed_project i sound e.student e.project c) M listed

  -- and supervisors
  supervisors : AllByRecursion (λ e. supervisor_of i e.project < length t.supervisors.items) M
  supervisors = each_from (λ (e : Pair). e.project < length t.projects.items) (λ e. supervisor_of i e.project < length t.supervisors.items) (λ e h. sound.offered e.project (0, 0) h) M projects

  -- they are a matching
  matching : IsMatching i M
  matching = record {
    listed = All-from_recursion (λ e. Contains (list_of i e.student) e.project) M listed;
    student_once = λ s. assigned_once s 0 t.students.items;
    project_within = within_all (λ e. e.project) (length t.projects.items) (project_quota i) M projects cleared.placed.within.projects;
    supervisor_within = within_all (λ e. supervisor_of i e.project) (length t.supervisors.items) (supervisor_quota i) M supervisors cleared.placed.within.supervisors;
  }

  -- a listed pair pays its weight: what the student has is at least what the project is worth
  covered : (s p : ℕ) → Contains (list_of i s) p → ¬ by (plus (u s) (plus (y p) (z (supervisor_of i p)))) (λ k. pos (weight (rank_in (list_of i s) p) k))
  covered s p c =
      let r : ℕ = rank_in (list_of i s) p in
      let w : ℕ → ℤ = λ k. pos (weight r k) in
      let costs : ℕ → ℤ = plus (y p) (z (supervisor_of i p)) in
      let least : NoLater by (worth t r p) (u s) = (own s (listed_student i s p c)).unbeaten p c in
      o.same (plus (worth t r p) costs) w (plus (u s) costs) (plus (u s) costs) (λ k _. omega (arith, ints)) (λ k _. refl)
      (o.plus (worth t r p) (u s) costs costs least (o.refl costs))

  -- all prices are what the pairs weigh
  equal : (k : ℕ) → k < COMPONENTS → value i u y z k ≡ weight_row i M k
  equal k h =
      let a : Pair → ℤ = λ e. pos (weight (rank i e) k) in
      let b : Pair → ℤ = λ e. y e.project k in
      let c : Pair → ℤ = λ e. z (supervisor_of i e.project) k in
      let us = holdings t lists content.one_each k in
      let ys : sum_below (length t.projects.items) (λ p. pos (project_quota i p) *ℤ y p k) ≡ sum_of b M =
      by_quotas (length t.projects.items) (λ e. e.project) (λ p. y p k) (project_quota i) M projects cleared.placed.within.projects (λ p l room. cleared.free.projects p l room k h) in
      let zs : sum_below (length t.supervisors.items) (λ l. pos (supervisor_quota i l) *ℤ z l k) ≡ sum_of c M =
      by_quotas (length t.supervisors.items) (λ e. supervisor_of i e.project) (λ l. z l k) (supervisor_quota i) M supervisors cleared.placed.within.supervisors (λ l g room. cleared.free.supervisors l g room k h) in
      let added = costs_added a b c M in
      let weighed : sum_of a M ≡ weight_row i M k = total_weight_is i M k in
      omega (arith, ints, us, ys, zs, added, weighed)

  -- so they prove the pairs best
  pub prove_best : ProveBest by i M u y z
  prove_best = record {
    matching = matching;
    students_not_below = λ s h. (own s h).not_below;
    projects_not_below = λ p h. cleared.not_below.projects p (omega (arith, h, cleared.prices.project_prices));
    supervisors_not_below = λ l h. cleared.not_below.supervisors l (omega (arith, h, cleared.prices.supervisor_prices));
    covered = covered;
    equal = equal;
  }

-- Step 9 of docs/PROOF.md. Where everybody's check and each student's accept, what is posted is best: as a student's price serves
-- what the student has by what is assigned.
pub posted_is_best : PostedIsBest
posted_is_best aim t lists cleared content =
    let i : Shape = with_lists t lists in
    best_from_unbeaten aim i (assigned t)
    (best_from_prices (aim_sums aim) i (assigned t) _ _ _ (prove_best (order aim) (aim_sums aim) t lists cleared content))
