-- The placements that places in the lists of the last round make are the pairs taken at them, kept: a place is the rank of its
-- pair, since no project stands twice in a list.
use Rattle.office.proofs.closing.Common.{option_map_or, AllByRecursion, prefix_len, bytes_eq, length-map, length-append, code_at, choices_of, rank_by_codes, taken, entry, Listed, Placement, State, list_key, last_round, lists_of, round_instance, IsFit, ListFits, kept, placed_at, placed_by, PlacedIsKept, PlacesAreInLists, all_two, ◌≡◌, ℕ, zero, suc, ◌+◌, ◌-◌, ◌<◌, ◌≤◌, not, List, [], ◌∷◌, ◌++◌, length, map, drop, get_or, Option, Some, None, slice_get, slice_index_or, option_map, refl, sym, ap, ◌∙◌, append_assoc, arith}
use Rattle.spa.specs.Shape.{IsPlaceOf}
use Rattle.spa.specs.Instance as spa
use Rattle.spa.specs.Named.{instance_of, students_named}
use Rattle.office.proofs.closing.Entries.{find_made}
use Rattle.office.proofs.closing.UniqueCodes.{same_as_itself, place_of_code, each_found}

abbrev listed : Listed → spa.Student
listed l = record { code = l.student; list = l.choices }

module _ (o : State) (fit : IsFit o) where
  -- what a student of the last round lists
  abbrev ListsOwn : Listed → Type 0
  ListsOwn l = (choices_of (round_instance o) l.student ≡ l.choices) × ListFits o (last_round o) l

  lists_own : AllByRecursion ListsOwn (lists_of o (last_round o))
  lists_own =
      all_two (λ (l : Listed). entry list_key (list_key l) (lists_of o (last_round o)) ≡ Some l) (ListFits o (last_round o)) ListsOwn
      (λ l found fits. (
        ap (λ (x : Option spa.Student). option_map_or (λ e. e.list) x []) (find_made list_key listed (λ e. e.code) (λ e. refl) l.student (lists_of o (last_round o)) ∙ ap (option_map listed) found),
        fits,
      ))
      (lists_of o (last_round o))
      (each_found list_key (λ l. same_as_itself l.student) (lists_of o (last_round o)) (fit.lists_rise (last_round o)))
      (fit.lists_fit (last_round o))

  -- a placement at a place has the rank of its pair
  same_placement : (l : Listed) (k : ℕ) → ListsOwn l → IsPlaceOf l.choices k → placed_at (last_round o) l k ≡ kept o (record { student = l.student; project = code_at l.choices (k - 1) })
  same_placement l k own place =
      let p : prefix_len (λ q. not (bytes_eq q (code_at l.choices (k - 1)))) l.choices ≡ k - 1 = place_of_code l.choices (k - 1) own.1.choices.distinct (omega (arith, place.first, place.last)) in
      let r : k ≡ rank_by_codes (round_instance o) (record { student = l.student; project = code_at l.choices (k - 1) }) =
      omega (arith, p, place.first) ∙ ap (λ (xs : List (List ℕ)). 1 + prefix_len (λ q. not (bytes_eq q (code_at l.choices (k - 1)))) xs) (sym own.0) in
      λ i. record { student = l.student; round = last_round o; project = code_at l.choices (k - 1); rank = r i }

  placed_from : (ls : List Listed) (ks : List (Option ℕ)) → AllByRecursion ListsOwn ls → ((s k : ℕ) → slice_get ks s ≡ Some (Some k) → IsPlaceOf (slice_index_or (map (λ l. l.choices) ls) s []) k)
      → placed_by (last_round o) ls ks ≡ map (kept o) (taken (map listed ls) ks)
  placed_from [] ks own within = refl
  placed_from (l ∷ ls) [] own within = refl
  placed_from (l ∷ ls) (None ∷ ks) own within = placed_from ls ks own.1 (λ s k is. within (suc s) k is)
  placed_from (l ∷ ls) (Some k ∷ ks) own within =
      let r = placed_from ls ks own.1 (λ s k is. within (suc s) k is) in
      let p = same_placement l k own.0 (within 0 k refl) in
      λ i. p i ∷ r i

-- the placements that are made are the pairs, kept
pub placed_is_kept : PlacedIsKept
placed_is_kept o ks fit places = placed_from o fit (lists_of o (last_round o)) ks (lists_own o fit) places.in_list

-- ---- the places of a matching are within the lists

-- the lists of an instance by codes are as long as those by positions
named_lists : (projects codes xss : List (List ℕ)) → length codes ≡ length xss → (s : ℕ) → length (slice_index_or (map (λ (e : spa.Student). e.list) (students_named projects codes xss)) s []) ≡ length (get_or xss s [])
named_lists projects [] [] e s = refl
named_lists projects [] (xs ∷ xss) e s = absurd (omega arith)
named_lists projects (c ∷ codes) [] e s = absurd (omega arith)
named_lists projects (c ∷ codes) (xs ∷ xss) e zero = length-map xs (code_at projects)
named_lists projects (c ∷ codes) (xs ∷ xss) e (suc s) = named_lists projects codes xss (omega arith) s

named_many : (projects codes xss : List (List ℕ)) → length codes ≡ length xss → length (students_named projects codes xss) ≡ length xss
named_many projects [] [] e = refl
named_many projects [] (xs ∷ xss) e = absurd (omega arith)
named_many projects (c ∷ codes) [] e = absurd (omega arith)
named_many projects (c ∷ codes) (xs ∷ xss) e = let r = named_many projects codes xss (omega arith) in omega (arith, r)

own_lists : (ls : List Listed) (s : ℕ) → slice_index_or (map (λ (e : spa.Student). e.list) (map listed ls)) s [] ≡ slice_index_or (map (λ l. l.choices) ls) s []
own_lists [] s = refl
own_lists (l ∷ ls) zero = refl
own_lists (l ∷ ls) (suc s) = own_lists ls s

-- places within the lists of the last round's instance are within the round's lists
pub within_lists : PlacesAreInLists
within_lists o ks are = let i = are.instance in let fit = are.fit in let is = are.same in let has = are.matched.places in record {
  one_each =
      let many = named_many i.project_codes i.student_codes i.shape.students fit.students.one_each in
      let same : length (instance_of i).students ≡ length (round_instance o).students = ap (λ (l : spa.Instance). length l.students) is in
      omega (arith, has.one_each, many, same, length-map (lists_of o (last_round o)) listed);
  in_list = λ s k at.
      (let a = named_lists i.project_codes i.student_codes i.shape.students fit.students.one_each s in
      let same : length (slice_index_or (map (λ (e : spa.Student). e.list) (instance_of i).students) s []) ≡ length (slice_index_or (map (λ (e : spa.Student). e.list) (round_instance o).students) s []) =
      ap (λ (l : spa.Instance). length (slice_index_or (map (λ (e : spa.Student). e.list) l.students) s [])) is in
      let b = ap length (own_lists (lists_of o (last_round o)) s) in
      let h = has.in_list s k at in
      record { first = h.first; last = omega (arith, h.last, a, same, b) });
}

-- ---- a step of the loop over lists

-- no more placements than lists
pub few_placed_by : (round : ℕ) (ls : List Listed) (ks : List (Option ℕ)) → length (placed_by round ls ks) ≤ length ls
few_placed_by round [] ks = omega arith
few_placed_by round (l ∷ ls) [] = omega arith
few_placed_by round (l ∷ ls) (None ∷ ks) = omega (arith, few_placed_by round ls ks)
few_placed_by round (l ∷ ls) (Some k ∷ ks) = omega (arith, few_placed_by round ls ks)

-- nor so far
pub few_so_far : (round : ℕ) (ls : List Listed) (ks : List (Option ℕ)) (made rest : List Placement) → made ++ rest ≡ placed_by round ls ks → length made ≤ length ls
few_so_far round ls ks made rest e = omega (arith, length-append made rest, ap length e, few_placed_by round ls ks)

-- a list without a place makes nothing
placed_none : (round : ℕ) (ls : List Listed) (ks : List (Option ℕ)) (s : ℕ) → s < length ls → get_or ks s None ≡ None → placed_by round (drop s ls) (drop s ks) ≡ placed_by round (drop (s + 1) ls) (drop (s + 1) ks)
placed_none round ls ks s h e = step round ls ks s h e ∙ ap (λ n. placed_by round (drop n ls) (drop n ks)) (let n : suc s ≡ s + 1 = omega arith in n)
  where
    none_after : (round : ℕ) (ls : List Listed) → placed_by round ls [] ≡ []
    none_after round [] = refl
    none_after round (l ∷ ls) = refl

    step : (round : ℕ) (ls : List Listed) (ks : List (Option ℕ)) (s : ℕ) → s < length ls → get_or ks s None ≡ None → placed_by round (drop s ls) (drop s ks) ≡ placed_by round (drop (suc s) ls) (drop (suc s) ks)
    step round [] ks s h e = absurd (omega arith)
    step round (l ∷ ls) [] zero h e = sym (none_after round ls)
    step round (l ∷ ls) [] (suc s) h e = none_after round (drop s ls) ∙ sym (none_after round (drop (suc s) ls))
    step round (l ∷ ls) (k ∷ ks) zero h e = ap (λ (x : Option ℕ). placed_by round (l ∷ ls) (x ∷ ks)) e
    step round (l ∷ ls) (k ∷ ks) (suc s) h e = step round ls ks s (omega (arith, h)) e

-- and one with a place a placement
placed_some : (round : ℕ) (ls : List Listed) (ks : List (Option ℕ)) (s k : ℕ) (l : Listed) → s < length ls → l ≡ get_or ls s l → get_or ks s None ≡ Some k → placed_by round (drop s ls) (drop s ks) ≡ placed_at round l k ∷ placed_by round (drop (s + 1) ls) (drop (s + 1) ks)
placed_some round ls ks s k l h is e = step round ls ks s k l h is e ∙ ap (λ n. placed_at round l k ∷ placed_by round (drop n ls) (drop n ks)) (let n : suc s ≡ s + 1 = omega arith in n)
  where
    step : (round : ℕ) (ls : List Listed) (ks : List (Option ℕ)) (s k : ℕ) (l : Listed) → s < length ls → l ≡ get_or ls s l → get_or ks s None ≡ Some k → placed_by round (drop s ls) (drop s ks) ≡ placed_at round l k ∷ placed_by round (drop (suc s) ls) (drop (suc s) ks)
    step round [] ks s k l h is e = absurd (omega arith)
    step round (x ∷ ls) [] s k l h is e = absurd (cc)
    step round (x ∷ ls) (y ∷ ks) zero k l h is e = ap (λ (z : Option ℕ). placed_by round (x ∷ ls) (z ∷ ks)) e ∙ ap (λ (z : Listed). placed_at round z k ∷ placed_by round ls ks) (sym is)
    step round (x ∷ ls) (y ∷ ks) (suc s) k l h is e = step round ls ks s k l (omega (arith, h)) is e

-- a step that places
pub placed_step : (round : ℕ) (ls : List Listed) (ks : List (Option ℕ)) (s k : ℕ) (l : Listed) (p : Placement) (new old all : List Placement) → s < length ls → l ≡ get_or ls s l → get_or ks s None ≡ Some k → p ≡ placed_at round l k → new ≡ old ++ p ∷ []
    → old ++ placed_by round (drop s ls) (drop s ks) ≡ all → new ++ placed_by round (drop (s + 1) ls) (drop (s + 1) ks) ≡ all
placed_step round ls ks s k l p new old all h is e made pushed so_far =
    let after : List Placement = placed_by round (drop (s + 1) ls) (drop (s + 1) ks) in
    ap (λ (xs : List Placement). xs ++ after) pushed ∙ append_assoc old (p ∷ []) after ∙ ap (λ (q : Placement). old ++ (q ∷ after)) made
    ∙ ap (λ (xs : List Placement). old ++ xs) (sym (placed_some round ls ks s k l h is e)) ∙ so_far

-- a step that does not
pub no_step : (round : ℕ) (ls : List Listed) (ks : List (Option ℕ)) (s : ℕ) (old all : List Placement) → s < length ls → get_or ks s None ≡ None → old ++ placed_by round (drop s ls) (drop s ks) ≡ all → old ++ placed_by round (drop (s + 1) ls) (drop (s + 1) ks) ≡ all
no_step round ls ks s old all h e so_far = ap (λ (xs : List Placement). old ++ xs) (sym (placed_none round ls ks s h e)) ∙ so_far
