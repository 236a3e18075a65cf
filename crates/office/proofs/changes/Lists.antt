-- A student's list in the open round gives way to new choices. A removal of its rows leaves those of the other lists; these, and the rows
-- of the new choices, are what the round has then. The office is looked at as that round next to the others, and the round as that list
-- next to the others.
use Rattle.office.proofs.changes.Common.{flat_map, IsPermutation, ◌&&◌, ◌||◌, ◌==◌, list_any, AllByRecursion, option_map_or, bytes_eq, eqb-true, eq-eqb, false_from_ne_true, filter-append, IsPermutation-refl, IsPermutation-sym, IsPermutation-trans, IsPermutation-map, IsPermutation-append_left, IsPermutation-append_right, list_any-IsPermutation, all-flat_map, all_of, filter_all, IsPermutation-flat_map, IsPermutation-filter, all_weaker, none_from_any, any_from_none, Text, Number, Round, Choice, Remove, Change, AllRows, Cells, begins, after_change, TransformsRows, RoundEntry, Listed, same_key, find, take_out, put, rises, State, round_key, list_key, last_round, round_of, has_list, is_open, IsFit, with_last, list_part, list_changes, choices_added, choice_cells, choice_rows, list_rows, rows_of_round, rows_in, round_cells, Transforms, has_reading, ◌≡◌, ℕ, suc, ◌≤◌, Bool, true, false, not, cond, drop, List, [], ◌∷◌, ◌++◌, map, Option, Some, is_some, refl, sym, ap, subst, ◌∙◌, arith, true≢false, append_assoc, filter}
use Rattle.office.proofs.changes.KeyTests.{and_true, number_test, code_test}
use Rattle.office.proofs.changes.Keyed.{none_taken, rows_left, rows_stay, filter_alike, none_left, begins_both}
use Rattle.office.proofs.changes.Changes.{SameElsewhere, AreFree, add, added_transforms, change_elsewhere}
use Rattle.office.proofs.changes.Rounds.{put_last, number, old_beside, new_beside, same_rows}
use Rattle.office.proofs.changes.Same.{from_same, to_same}

-- ---- the rows of a list

-- the beginning of the rows of a list
abbrev pub head : ℕ → List ℕ → Cells
head n s = Number n ∷ Text s ∷ []

-- whether a list of a round and a student is that of another
abbrev is_that : ℕ → List ℕ → ℕ → List ℕ → Bool
is_that n s m t = (n == m) && (bytes_eq s t && true)

-- all rows of a list begin alike
alike : (n : ℕ) (s : List ℕ) (m : ℕ) (t : List ℕ) (b : Bool) → is_that n s m t ≡ b → (place : ℕ) (cs : List (List ℕ)) → AllByRecursion (λ row. begins (head n s) row ≡ b) (choice_rows m t place cs)
alike n s m t b is place [] = tt
alike n s m t b is place (c ∷ cs) = (is, alike n s m t b is (suc place) cs)

-- in the round itself as the students are the same
pub own_begin : (n : ℕ) (s : List ℕ) (l : Listed) → AllByRecursion (λ row. begins (head n s) row ≡ same_key (0, s) (list_key l)) (list_rows n l)
own_begin n s l = alike n s n l.student (same_key (0, s) (list_key l)) (ap (λ b. b && (bytes_eq s l.student && true)) (eq-eqb n n refl) ∙ code_test s l.student) 1 l.choices

-- and in no other round
pub others_begin : (n : ℕ) (s : List ℕ) (r : RoundEntry) → same_key (n, []) (round_key r) ≡ false → AllByRecursion (λ row. begins (head n s) row ≡ false) (rows_of_round r)
others_begin n s r other =
    all-flat_map (λ row. begins (head n s) row ≡ false) (list_rows r.number) r.lists
    (all_of (λ l. AllByRecursion (λ row. begins (head n s) row ≡ false) (list_rows r.number l))
    (λ l. alike n s r.number l.student false (ap (λ b. b && (bytes_eq s l.student && true)) (sym (and_true (n == r.number)) ∙ number_test n r.number ∙ other)) 1 l.choices) r.lists)

-- so a removal takes the rows of the list, and no others
abbrev stays : ℕ → List ℕ → Cells → Bool
stays n s row = not (begins (head n s) row)

own_stay : (n : ℕ) (s : List ℕ) (l : Listed) → filter (stays n s) (list_rows n l) ≡ cond (not (same_key (0, s) (list_key l))) (list_rows n l) []
own_stay n s l = filter_alike (stays n s) (not (same_key (0, s) (list_key l))) (list_rows n l)
    (all_weaker (λ row. begins (head n s) row ≡ same_key (0, s) (list_key l)) (λ row. stays n s row ≡ not (same_key (0, s) (list_key l))) (λ row h. ap not h) (list_rows n l) (own_begin n s l))

others_stay : (n : ℕ) (s : List ℕ) (r : RoundEntry) → same_key (n, []) (round_key r) ≡ false → filter (stays n s) (rows_of_round r) ≡ rows_of_round r
others_stay n s r other = filter_all (stays n s) (rows_of_round r) (all_weaker (λ row. begins (head n s) row ≡ false) (λ row. stays n s row ≡ true) (λ row h. ap not h) (rows_of_round r) (others_begin n s r other))

-- ---- keys of choices

-- the key of a choice: its list, and its place there
abbrev pub choice_key : ℕ → List ℕ → ℕ → Cells
choice_key n s p = head n s ++ Number p ∷ []

-- where no row is of a list none has the key of one of its choices
none_at : (n : ℕ) (s : List ℕ) (p : ℕ) (rows : List Cells) → list_any (begins (head n s)) rows ≡ false → list_any (begins (choice_key n s p)) rows ≡ false
none_at n s p rows h =
    any_from_none (begins (choice_key n s p)) rows
    (all_weaker (λ row. begins (head n s) row ≡ false) (λ row. begins (choice_key n s p) row ≡ false) (λ row no. begins_both (head n s) (Number p ∷ []) row ∙ ap (λ b. b && begins (Number p ∷ []) (drop 2 row)) no)
    rows (none_from_any (begins (head n s)) rows h))

-- a row of another place has not the key
other_place : (n : ℕ) (s : List ℕ) (p q : ℕ) (c : List ℕ) → (p ≡ q → ⊥) → begins (choice_key n s p) (choice_cells n s q c) ≡ false
other_place n s p q c other =
    begins_both (head n s) (Number p ∷ []) (choice_cells n s q c)
    ∙ ap (λ b. begins (head n s) (choice_cells n s q c) && (b && true)) (false_from_ne_true (p == q) (λ h. other (eqb-true p q h)))
    ∙ and_false (begins (head n s) (choice_cells n s q c))
  where
    and_false : (b : Bool) → (b && false) ≡ false
    and_false true = refl
    and_false false = refl

-- so choices are added at free keys, one place after another
choices_free : (n : ℕ) (s : List ℕ) (place : ℕ) (cs : List (List ℕ)) (rows : List Cells) → ((p : ℕ) → place ≤ p → list_any (begins (choice_key n s p)) rows ≡ false) → AreFree Choice (choice_rows n s place cs) rows
choices_free n s place [] rows none = tt
choices_free n s place (c ∷ cs) rows none = (
  none place (omega arith),
  choices_free n s (suc place) cs (choice_cells n s place c ∷ rows) (λ p above.
      ap (λ b. b || list_any (begins (choice_key n s p)) rows) (other_place n s p place c (λ same. omega (arith, same, above))) ∙ none p (omega (arith, above))),
)

-- the changes that add choices add their rows
added_rows : (n : ℕ) (s : List ℕ) (place : ℕ) (cs : List (List ℕ)) → choices_added n s place cs ≡ map (add Choice) (choice_rows n s place cs)
added_rows n s place [] = refl
added_rows n s place (c ∷ cs) = ap (λ rest. add Choice (choice_cells n s place c) ∷ rest) (added_rows n s (suc place) cs)

-- ---- the open round

-- g makes of the round's lists those in which new choices stand in the place of the student's
module _ (g : List Listed → List Listed) (s : List ℕ) (new : List (List ℕ)) (o : State) (fit : IsFit o) (opened : is_open o (last_round o) ≡ true)
    (own : (ls : List Listed) → rises list_key ls ≡ true → IsPermutation (choice_rows (last_round o) s 1 new ++ flat_map (list_rows (last_round o)) (take_out list_key (0, s) ls)) (flat_map (list_rows (last_round o)) (g ls))) where
  -- the open round
  abbrev n : ℕ
  n = last_round o

  -- with the new lists
  abbrev with_new : RoundEntry → RoundEntry
  with_new r = record r { lists = g r.lists }

  module _ (r : RoundEntry) (is : round_of o n ≡ Some r) where
    -- the other rounds
    abbrev others : List RoundEntry
    others = take_out round_key (n, []) o.rounds

    -- the rows of the round's other lists, and of the other rounds
    abbrev rest : List Cells
    rest = flat_map (list_rows n) (take_out list_key (0, s) r.lists) ++ flat_map rows_of_round others

    -- the number of the round
    abbrev last : r.number ≡ n
    last = number o fit r (with_new r) is refl

    -- they are left once the list is taken out
    left_is : filter (stays n s) (rows_of_round r ++ flat_map rows_of_round others) ≡ rest
    left_is =
        filter-append (stays n s) (rows_of_round r) (flat_map rows_of_round others)
        ∙ (λ i. (ap (λ m. filter (stays n s) (flat_map (list_rows m) r.lists)) last ∙ rows_left list_key (list_rows n) (0, s) (stays n s) (own_stay n s) r.lists) i
        ++ rows_stay round_key rows_of_round (n, []) (stays n s) (others_stay n s) o.rounds i)

    left_over : IsPermutation (filter (stays n s) (flat_map rows_of_round o.rounds)) rest
    left_over =
        to_same (IsPermutation-filter (stays n s) _ _ (IsPermutation-sym _ _ (IsPermutation-flat_map rows_of_round _ _ (old_beside o fit r (with_new r) is refl)))) left_is

    -- and they are all where the student has no list
    none_over : has_list o n s ≡ false → IsPermutation (flat_map rows_of_round o.rounds) rest
    none_over none =
        let same : take_out list_key (0, s) r.lists ≡ r.lists = none_taken list_key (0, s) r.lists (ap (λ (x : Option RoundEntry). is_some (find list_key (0, s) (option_map_or (λ r. r.lists) x []))) (sym is) ∙ none) in
        to_same (IsPermutation-sym _ _ (IsPermutation-flat_map rows_of_round _ _ (old_beside o fit r (with_new r) is refl)))
        (λ i. flat_map (list_rows (last i)) (sym same i) ++ flat_map rows_of_round others)

    -- where they stand no key of a choice is taken
    free_there : (xs : List Cells) → IsPermutation xs rest → AreFree Choice (choice_rows n s 1 new) xs
    free_there xs same = choices_free n s 1 new xs (λ p above. none_at n s p xs
        (list_any-IsPermutation (begins (head n s)) xs rest same ∙ ap (list_any (begins (head n s))) (sym left_is) ∙ none_left (begins (head n s)) (rows_of_round r ++ flat_map rows_of_round others)))

    -- and the rows of the new choices next to them are those of the office after
    come : (xs : List Cells) → IsPermutation xs rest → IsPermutation (choice_rows n s 1 new ++ xs) (flat_map rows_of_round (put round_key (with_new r) o.rounds))
    come xs same =
        let rise : rises list_key r.lists ≡ true = subst (λ (x : Option RoundEntry). rises list_key (option_map_or (λ r. r.lists) x []) ≡ true) is (fit.lists_rise n) in
        IsPermutation-trans _ _ _ (IsPermutation-append_right (choice_rows n s 1 new) xs rest same)
        (from_same (sym (append_assoc (choice_rows n s 1 new) (flat_map (list_rows n) (take_out list_key (0, s) r.lists)) (flat_map rows_of_round others)))
        (IsPermutation-trans _ _ _ (IsPermutation-append_left (flat_map rows_of_round others) _ _ (own r.lists rise))
        (from_same (ap (λ m. flat_map (list_rows m) (g r.lists) ++ flat_map rows_of_round others) (sym last))
        (IsPermutation-flat_map rows_of_round _ _ (new_beside o fit r (with_new r) is refl)))))

    -- the office after
    abbrev after : State
    after = record o { rounds = put round_key (with_new r) o.rounds }

    -- no other table changes
    elsewhere : SameElsewhere Choice (rows_in o) (rows_in after)
    elsewhere Choice h = cc
    elsewhere Round h = same_rows o fit r (with_new r) is refl (map round_cells) (IsPermutation-map round_cells) refl
    elsewhere _ h = IsPermutation-refl _

    -- the new choices are added where the rest stands
    added_to : (rows : AllRows) → IsPermutation (rows Choice) rest → SameElsewhere Choice rows (rows_in after) → TransformsRows (choices_added n s 1 new) rows (rows_in after)
    added_to rows same else =
        subst (λ cs. TransformsRows cs rows (rows_in after)) (sym (added_rows n s 1 new))
        (added_transforms Choice (choice_rows n s 1 new) rows (rows_in after) (free_there (rows Choice) same) (come (rows Choice) same) else)

    -- there is a list to be taken out, or none
    by : (has : Bool) → (has ≡ false → has_list o n s ≡ false) → Transforms (list_changes n s has new) o after
    by false absent = added_to (rows_in o) (none_over (absent refl)) elsewhere
    by true absent =
        let taken : Change = Remove (list_part n s) in
        let transforms = added_to (after_change taken (rows_in o)) left_over (λ table other. from_same (change_elsewhere taken (rows_in o) table other) (elsewhere table other)) in
        record { fresh = (tt, transforms.fresh); rows = transforms.rows }

  pub transforms_lists : (has : Bool) → (has ≡ false → has_list o n s ≡ false) → Transforms (list_changes n s has new) o (with_last with_new o)
  transforms_lists has absent =
      let there = has_reading (λ (r : RoundEntry). r.is_open) false true (round_of o n) opened (λ h. true≢false (sym h)) in
      subst (λ (after : State). Transforms (list_changes n s has new) o after) (sym (put_last with_new o there.0 there.1)) (by there.0 there.1 has absent)
