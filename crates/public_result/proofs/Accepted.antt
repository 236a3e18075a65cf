-- What is posted of a matching that prices prove best is accepted: by complementary slackness each student's price is what the
-- student has, and what has room has no price.
use Rattle.std.proofs.Common.{◌≡◌, ℕ, zero, suc, ◌+◌, ◌-◌, ◌<◌, ◌≤◌, ◌==◌, List, [], ◌∷◌, length, get_or, Contains, count_by, slice_get, Option, Some, None, refl, sym, ap, ◌∙◌, subst, arith, ℤ, pos, ◌+ℤ◌, ◌-ℤ◌, ◌*ℤ◌}
use Rattle.public_result.proofs.Common.{AreContent, IsCleared, IsList, IsNothing, IsPostOf, IsRoomFree, IsKnown, HasPrices, PostsAreAccepted, chosen, cost, holding, offerer, assigned_pairs, assigned, with_lists, worth, Posted, IsSumOrder, NoLater, each_from, listed_project, total_weight_is, sum_of, sum_of-by_key, aim_sums, Pair, rank, rank_in, weight, weight_row, RowOrder, none, order, plus, sum_below, value, IsSound, IsPlaceOf, Shape, list_of, choice_at, project_quota, supervisor_of, supervisor_quota, COMPONENTS, Aim, ints, get_or_default, recursion_from_All, AllByRecursion, price, times, pairs, pairs_from, IsWithinLimits, IsProvedBest, Prices}
use Rattle.verdict.specs.Rows.{AllInRange, AreNotBelowZero}
use Rattle.public_result.proofs.Sums.{holdings, costs_added}
use Rattle.public_result.proofs.Zero.{first_nothing, second_nothing, plus_above, sum_above, each_nothing, times_above, times_nothing}

-- as many students are assigned something as have lists
chosen_each : (xss : List (List ℕ)) (ks : List (Option ℕ)) → length ks ≡ length xss → length (chosen xss ks) ≡ length xss
chosen_each [] ks h = refl
chosen_each (xs ∷ xss) [] h = h
chosen_each (xs ∷ xss) (None ∷ ks) h = let r = chosen_each xss ks (omega arith) in omega (arith, r)
chosen_each (xs ∷ xss) (Some k ∷ ks) h = let r = chosen_each xss ks (omega arith) in omega (arith, r)

-- the pairs of what is assigned are those of the places
chosen_pairs : (n : ℕ) (xss : List (List ℕ)) (ks : List (Option ℕ)) → assigned_pairs n (chosen xss ks) ≡ pairs_from n xss ks
chosen_pairs n [] ks = refl
chosen_pairs n (xs ∷ xss) [] = refl
chosen_pairs n (xs ∷ xss) (None ∷ ks) = chosen_pairs (suc n) xss ks
chosen_pairs n (xs ∷ xss) (Some k ∷ ks) = ap (λ (M : List Pair). let e : Pair = record { student = n; project = choice_at xs k } in e ∷ M) (chosen_pairs (suc n) xss ks)

-- what a student is assigned stands at the place
assigned_place : (xss : List (List ℕ)) (ks : List (Option ℕ)) (s p : ℕ) → get_or (chosen xss ks) s None ≡ Some p → (k : ℕ) × (slice_get ks s ≡ Some (Some k)) × (choice_at (get_or xss s []) k ≡ p)
assigned_place [] ks s p e = absurd (cc)
assigned_place (xs ∷ xss) [] s p e = absurd (cc)
assigned_place (xs ∷ xss) (None ∷ ks) zero p e = absurd (cc)
assigned_place (xs ∷ xss) (None ∷ ks) (suc s) p e = assigned_place xss ks s p e
assigned_place (xs ∷ xss) (Some k ∷ ks) zero p e = (k, refl, cc)
assigned_place (xs ∷ xss) (Some k ∷ ks) (suc s) p e = assigned_place xss ks s p e

module _ (aim : Aim) (t : Posted) (lists : List (List ℕ)) (ks : List (Option ℕ)) (p : Prices)
    (sound : IsSound (with_lists t lists)) (limits : IsWithinLimits (with_lists t lists)) (best : IsProvedBest (order aim) (with_lists t lists) ks p) (post : IsPostOf t lists ks p) where
  abbrev by : RowOrder
  by = order aim

  abbrev o : IsSumOrder (order aim)
  o = aim_sums aim

  abbrev i : Shape
  i = with_lists t lists

  abbrev M : List Pair
  M = assigned t

  abbrev project_of : ℕ → Option ℕ
  project_of s = get_or t.students.items s None

  -- the prices of the proof
  abbrev u : ℕ → ℕ → ℤ
  u = price p.students.items

  abbrev y : ℕ → ℕ → ℤ
  y = price t.project_prices.items

  abbrev z : ℕ → ℕ → ℤ
  z = price t.supervisor_prices.items

  one_each : length lists ≡ length t.students.items
  one_each = sym (ap length post.students ∙ chosen_each lists ks best.matched.places.one_each)

  same_pairs : assigned t ≡ pairs i ks
  same_pairs = ap (assigned_pairs 0) post.students ∙ chosen_pairs 0 lists ks

  -- what is assigned stands in the list
  in_list : (s q : ℕ) → project_of s ≡ Some q → Contains (list_of i s) q
  in_list s q e =
      let f = assigned_place lists ks s q (ap (λ (ps : List (Option ℕ)). get_or ps s None) (sym post.students) ∙ e) in
      let place : IsPlaceOf (list_of i s) f.0 = best.matched.places.in_list s f.0 f.1 in
      let within : f.0 - 1 < length (list_of i s) = omega (arith, place.first, place.last) in
      (f.0 - 1, within, get_or_default (list_of i s) (f.0 - 1) q 0 within ∙ f.2)

  -- a pair of the proof pays its weight
  covered : (s q : ℕ) → Contains (list_of i s) q → ¬ by (plus (u s) (cost t q)) (λ k. pos (weight (rank_in (list_of i s) q) k))
  covered s q c =
      subst (λ (zs : List (List ℤ)). ¬ by (plus (u s) (plus (y q) (price zs (supervisor_of i q)))) (λ k. pos (weight (rank_in (list_of i s) q) k))) (sym post.supervisor_prices)
      (subst (λ (ys : List (List ℤ)). ¬ by (plus (u s) (plus (price ys q) (price p.supervisors.items (supervisor_of i q)))) (λ k. pos (weight (rank_in (list_of i s) q) k))) (sym post.project_prices) (best.covered s q c))

  -- so its student's price is at least what the project is worth
  at_least : (s q : ℕ) → Contains (list_of i s) q → NoLater by (worth t (rank_in (list_of i s) q) q) (u s)
  at_least s q c =
      let w : ℕ → ℤ = λ k. pos (weight (rank_in (list_of i s) q) k) in
      let back : ℕ → ℤ = λ k. pos 0 -ℤ cost t q k in
      o.same (plus w back) (worth t (rank_in (list_of i s) q) q) (plus (plus (u s) (cost t q)) back) (u s) (λ k _. omega (arith, ints)) (λ k _. omega (arith, ints))
      (o.plus w (plus (u s) (cost t q)) back back (covered s q c) (o.refl back))

  students_above : (s : ℕ) → s < length lists → NoLater by none (u s)
  students_above s h = best.not_below.students s (omega (arith, h, best.shape.students))

  projects_above : (q : ℕ) → q < length t.projects.items → NoLater by none (y q)
  projects_above q h =
      subst (λ (ys : List (List ℤ)). ¬ by (price ys q) none) (sym post.project_prices) (best.not_below.projects q (omega (arith, h, best.shape.projects)))

  supervisors_above : (l : ℕ) → l < length t.supervisors.items → NoLater by none (z l)
  supervisors_above l h =
      subst (λ (zs : List (List ℤ)). ¬ by (price zs l) none) (sym post.supervisor_prices) (best.not_below.supervisors l (omega (arith, h, best.shape.supervisors)))

  -- what is assigned leads to no more than the price
  holds_at_most : (s : ℕ) → s < length lists → (x : Option ℕ) → project_of s ≡ x → NoLater by (holding t (list_of i s) x) (u s)
  holds_at_most s h None e = students_above s h
  holds_at_most s h (Some q) e = at_least s q (in_list s q e)

  -- a student's price, less what the student has
  abbrev over : ℕ → ℕ → ℤ
  over s k = u s k -ℤ holding t (list_of i s) (project_of s) k

  over_above : (s : ℕ) → s < length lists → NoLater by none (over s)
  over_above s h =
      let has : ℕ → ℤ = holding t (list_of i s) (project_of s) in
      let back : ℕ → ℤ = λ k. pos 0 -ℤ has k in
      o.same (plus has back) none (plus (u s) back) (over s) (λ k _. omega (arith, ints)) (λ k _. omega (arith, ints))
      (o.plus has (u s) back back (holds_at_most s h (project_of s) refl) (o.refl back))

  -- the pairs are of known projects and supervisors
  projects : AllByRecursion (λ e. e.project < length t.projects.items) M
  projects =
      subst (λ (N : List Pair). AllByRecursion (λ e. e.project < length t.projects.items) N) (sym same_pairs)
      (each_from (λ (e : Pair). Contains (list_of i e.student) e.project) (λ e. e.project < length t.projects.items) (λ e c. listed_project i sound e.student e.project c) (pairs i ks)
      (recursion_from_All (λ e. Contains (list_of i e.student) e.project) (pairs i ks) best.matched.matching.listed))

  supervisors : AllByRecursion (λ e. offerer t e.project < length t.supervisors.items) M
  supervisors = each_from (λ (e : Pair). e.project < length t.projects.items) (λ e. offerer t e.project < length t.supervisors.items) (λ e h. sound.offered e.project (0, 0) h) M projects

  -- how many are assigned a project, and one of a supervisor
  abbrev placed : ℕ → ℕ
  placed q = count_by (λ (e : Pair). e.project == q) M

  abbrev load : ℕ → ℕ
  load l = count_by (λ (e : Pair). offerer t e.project == l) M

  placed_within : (q : ℕ) → placed q ≤ project_quota i q
  placed_within q = subst (λ (N : List Pair). count_by (λ e. e.project == q) N ≤ project_quota i q) (sym same_pairs) (best.matched.matching.project_within q)

  load_within : (l : ℕ) → load l ≤ supervisor_quota i l
  load_within l = subst (λ (N : List Pair). count_by (λ e. offerer t e.project == l) N ≤ supervisor_quota i l) (sym same_pairs) (best.matched.matching.supervisor_within l)

  -- the prices of the places that are left
  abbrev left_projects : ℕ → ℕ → ℤ
  left_projects q = times (project_quota i q - placed q) (y q)

  abbrev left_supervisors : ℕ → ℕ → ℤ
  left_supervisors l = times (supervisor_quota i l - load l) (z l)

  -- a sum by quotas is one by counts and one by what is left
  two_sums : (m : ℕ) (quota count : ℕ → ℕ) (f : ℕ → ℤ) → ((k : ℕ) → count k ≤ quota k) → sum_below m (λ k. pos (quota k) *ℤ f k) ≡ sum_below m (λ k. pos (count k) *ℤ f k) +ℤ sum_below m (λ k. pos (quota k - count k) *ℤ f k)
  two_sums zero quota count f h = refl
  two_sums (suc m) quota count f h =
      let r = two_sums m quota count f h in
      let c : ℕ = count m in
      let d : ℕ = quota m - count m in
      let split : quota m ≡ c + d = let l = h m in omega arith in
      let e : pos (quota m) *ℤ f m ≡ pos c *ℤ f m +ℤ pos d *ℤ f m = ap (λ (n : ℕ). pos n *ℤ f m) split ∙ omega (arith, ints) in
      omega (arith, ints, r, e)

  -- differences add up
  sum_minus : (m : ℕ) (f g : ℕ → ℤ) → sum_below m (λ s. f s -ℤ g s) +ℤ sum_below m g ≡ sum_below m f
  sum_minus zero f g = refl
  sum_minus (suc m) f g = let r = sum_minus m f g in omega (arith, ints, r)

  -- all that is over, and all that is left, is nothing
  abbrev all_over : ℕ → ℤ
  all_over k = sum_below (length lists) (λ s. over s k)

  abbrev all_projects : ℕ → ℤ
  all_projects k = sum_below (length t.projects.items) (λ q. left_projects q k)

  abbrev all_supervisors : ℕ → ℤ
  all_supervisors k = sum_below (length t.supervisors.items) (λ l. left_supervisors l k)

  nothing_left : IsNothing (plus all_over (plus all_projects all_supervisors))
  nothing_left k h =
      let a : Pair → ℤ = λ e. pos (weight (rank i e) k) in
      let b : Pair → ℤ = λ e. y e.project k in
      let c : Pair → ℤ = λ e. z (offerer t e.project) k in
      let us = sum_minus (length lists) (λ s. u s k) (λ s. holding t (list_of i s) (project_of s) k) in
      let has = holdings t lists one_each k in
      let ys = two_sums (length t.projects.items) (project_quota i) placed (λ q. y q k) placed_within in
      let zs = two_sums (length t.supervisors.items) (supervisor_quota i) load (λ l. z l k) load_within in
      let by_project = sum_of-by_key (length t.projects.items) (λ (e : Pair). e.project) (λ q. y q k) M projects in
      let by_supervisor = sum_of-by_key (length t.supervisors.items) (λ (e : Pair). offerer t e.project) (λ l. z l k) M supervisors in
      let added = costs_added a b c M in
      let weighed : sum_of a M ≡ weight_row i M k = total_weight_is i M k in
      let balance : value i u y z k ≡ weight_row i M k =
      ap (λ (ys : List (List ℤ)). value i u (price ys) z k) post.project_prices ∙ ap (λ (zs : List (List ℤ)). value i u (price p.projects.items) (price zs) k) post.supervisor_prices ∙ best.equal k h ∙ ap (λ (N : List Pair). weight_row i N k) (sym same_pairs) in
      omega (arith, ints, us, has, ys, zs, by_project, by_supervisor, added, weighed, balance)

  over_is_above : NoLater by none all_over
  over_is_above = sum_above aim (length lists) over over_above

  projects_are_above : NoLater by none all_projects
  projects_are_above = sum_above aim (length t.projects.items) left_projects (λ q h. times_above aim (project_quota i q - placed q) (y q) (projects_above q h))

  supervisors_are_above : NoLater by none all_supervisors
  supervisors_are_above = sum_above aim (length t.supervisors.items) left_supervisors (λ l h. times_above aim (supervisor_quota i l - load l) (z l) (supervisors_above l h))

  left_is_above : NoLater by none (plus all_projects all_supervisors)
  left_is_above = plus_above aim all_projects all_supervisors projects_are_above supervisors_are_above

  -- a student's price is what the student has
  price_is : (s : ℕ) → s < length lists → (k : ℕ) → k < COMPONENTS → u s k ≡ holding t (list_of i s) (project_of s) k
  price_is s h k l =
      let e : over s k ≡ pos 0 = each_nothing aim (length lists) over over_above (first_nothing aim all_over (plus all_projects all_supervisors) over_is_above left_is_above nothing_left) s h k l in
      omega (arith, ints, e)

  left_nothing : IsNothing (plus all_projects all_supervisors)
  left_nothing = second_nothing aim all_over (plus all_projects all_supervisors) over_is_above left_is_above nothing_left

  -- what has room costs nothing
  free : IsRoomFree t
  free = record {
    projects = λ q h room.
        times_nothing aim (project_quota i q - placed q) (y q) (omega arith) (projects_above q h)
        (each_nothing aim (length t.projects.items) left_projects (λ q h. times_above aim (project_quota i q - placed q) (y q) (projects_above q h))
        (first_nothing aim all_projects all_supervisors projects_are_above supervisors_are_above left_nothing) q h);
    supervisors = λ l h room.
        times_nothing aim (supervisor_quota i l - load l) (z l) (omega arith) (supervisors_above l h)
        (each_nothing aim (length t.supervisors.items) left_supervisors (λ l h. times_above aim (supervisor_quota i l - load l) (z l) (supervisors_above l h))
        (second_nothing aim all_projects all_supervisors projects_are_above supervisors_are_above left_nothing) l h);
  }

  known : IsKnown t
  known = record {
    supervisors = limits.supervisors;
    projects = limits.projects;
    students = let n = limits.students in let e = one_each in omega arith;
    offered = sound.offered;
    known = λ s q h e. listed_project i sound s q (in_list s q e);
  }

  has_prices : HasPrices t
  has_prices = record {
    project_prices = ap length post.project_prices ∙ best.shape.projects;
    supervisor_prices = ap length post.supervisor_prices ∙ best.shape.supervisors;
    projects_range = subst AllInRange (sym post.project_prices) best.shape.projects_range;
    supervisors_range = subst AllInRange (sym post.supervisor_prices) best.shape.supervisors_range;
  }

  pub is_cleared : IsCleared by t
  is_cleared = record {
    placed = record { known = known; within = record { projects = λ q _. placed_within q; supervisors = λ l _. load_within l } };
    prices = has_prices;
    not_below = record {
      projects = subst (AreNotBelowZero by) (sym post.project_prices) best.not_below.projects;
      supervisors = subst (AreNotBelowZero by) (sym post.supervisor_prices) best.not_below.supervisors;
    };
    free = free;
  }

  -- a student's list is sound
  own_list : (s : ℕ) → s < length lists → IsList t (list_of i s)
  own_list s h = record {
    ranked = sound.ranked s [] h;
    within = sound.within s [] h;
    known = sound.known s [] h;
    distinct = sound.distinct s [] h;
  }

  pub are_content : AreContent by t lists
  are_content = record {
    one_each = one_each;
    each = λ s h. record {
      sound = own_list s h;
      listed = λ q e. in_list s q e;
      not_below = o.same none none (u s) (holding t (list_of i s) (project_of s)) (λ k _. refl) (price_is s h) (students_above s h);
      unbeaten = λ q c. o.same (worth t (rank_in (list_of i s) q) q) (worth t (rank_in (list_of i s) q) q) (u s) (holding t (list_of i s) (project_of s)) (λ k _. refl) (price_is s h) (at_least s q c);
    };
  }

-- Step 9 of docs/PROOF.md. What is posted of a matching that prices prove best is accepted: nothing is over, so that a student's
-- price is what the student has, and what has room costs nothing.
pub posts_are_accepted : PostsAreAccepted
posts_are_accepted aim t lists ks p sound limits best post =
    (is_cleared aim t lists ks p sound limits best post, are_content aim t lists ks p sound limits best post)
