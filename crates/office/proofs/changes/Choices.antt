-- The rows of choices, in whatever order, give back what each student lists in each round: those of one list are known by their beginning,
-- and they stand by their places.
use Rattle.office.proofs.changes.Common.{flat_map, IsPermutation, option_map_or, first_so, second_so, nat_cmp_is, is_lt, ordering_then, Less, Equal, and_from, filter-append, filter_none, IsPermutation-flat_map, IsPermutation-filter, Text, Number, Cells, begins, RoundEntry, Listed, Key, same_key, find, is_below, rises, State, round_key, list_key, round_of, choices_in, choice_cells, choice_rows, list_rows, rows_of_round, is_equal, found_key, find_below, keys_exact, IsShaped, ◌≡◌, ℕ, suc, ◌<◌, Bool, true, false, cond, List, [], ◌∷◌, ◌++◌, map, Option, Some, None, refl, sym, ap, subst, ◌∙◌, append-nil, arith, filter}
use Rattle.std.proofs.lemmas.List.{map-id}
use Rattle.office.proofs.changes.Keyed.{filter_alike}
use Rattle.office.proofs.changes.Found.{same_self, entries_same}
use Rattle.office.proofs.changes.Lists.{head, own_begin, others_begin}
use Rattle.office.proofs.changes.Same.{from_same, to_same}

-- ---- entries from rows

-- an entry that may be there
abbrev listed : {E : Type 0} → Option E → List E
listed None = []
listed (Some e) = e ∷ []

-- what rows give back of entries is the same in whatever order where the rows are
pub rows_give : {E B : Type 0} (row : E → Cells) (entry : Cells → Option B) (back : E → B) → ((e : E) → entry (row e) ≡ Some (back e)) → (es fs : List E) → IsPermutation (map row es) (map row fs)
    → IsPermutation (map back es) (map back fs)
rows_give row entry back is es fs same =
    from_same (sym (given es))
    (to_same (IsPermutation-flat_map (λ r. listed (entry r)) _ _ same) (given fs))
  where
    given : (es : List _) → flat_map (λ r. listed (entry r)) (map row es) ≡ map back es
    given [] = refl
    given (e ∷ es) = λ i. listed (is e i) ++ given es i

-- and so are the entries, where it is all of them
pub rows_same : {E : Type 0} (row : E → Cells) (entry : Cells → Option E) → ((e : E) → entry (row e) ≡ Some e) → (es fs : List E) → IsPermutation (map row es) (map row fs) → IsPermutation es fs
rows_same row entry is es fs same = subst (λ xs. IsPermutation xs fs) (map-id es) (subst (IsPermutation (map (λ e. e) es)) (map-id fs) (rows_give row entry (λ e. e) is es fs same))

-- ---- choices by their places

-- the key of a place
abbrev pub place_key : ℕ × List ℕ → Key
place_key p = (p.0, [])

-- choices with their places, from one on
abbrev pub placed : ℕ → List (List ℕ) → List (ℕ × List ℕ)
placed n [] = []
placed n (c ∷ cs) = (n, c) ∷ placed (suc n) cs

-- places rise from one on
below : (n m : ℕ) (cs : List (List ℕ)) → n < m → is_below place_key (n, []) (placed m cs) ≡ true
below n m [] h = refl
below n m (c ∷ cs) h = and_from _ _ (ap (λ r. is_lt (ordering_then r Equal)) (sym (nat_cmp_is n m Less h))) (below n (suc m) cs (omega (arith, h)))

pub placed_rise : (n : ℕ) (cs : List (List ℕ)) → rises place_key (placed n cs) ≡ true
placed_rise n [] = refl
placed_rise n (c ∷ cs) = and_from _ _ (below n (suc n) cs (omega arith)) (placed_rise (suc n) cs)

-- without their places they are the choices
chosen : (n : ℕ) (cs : List (List ℕ)) → map (λ (p : ℕ × List ℕ). p.1) (placed n cs) ≡ cs
chosen n [] = refl
chosen n (c ∷ cs) = ap (λ xs. c ∷ xs) (chosen (suc n) cs)

module _ (round : ℕ) (student : List ℕ) where
  -- the row of a choice at its place
  abbrev pub choice_row : ℕ × List ℕ → Cells
  choice_row p = choice_cells round student p.0 p.1

  -- which gives it back
  choice_of : Cells → Option (ℕ × List ℕ)
  choice_of (Number n ∷ Text s ∷ Number place ∷ Text c ∷ []) = Some (place, c)
  choice_of _ = None

  -- the rows of a list are those of its choices at their places
  pub as_placed : (n : ℕ) (cs : List (List ℕ)) → choice_rows round student n cs ≡ map choice_row (placed n cs)
  as_placed n [] = refl
  as_placed n (c ∷ cs) = ap (λ rows. choice_row (n, c) ∷ rows) (as_placed (suc n) cs)

  -- the rows of a list give back its choices
  choices_same : (cs ds : List (List ℕ)) → IsPermutation (choice_rows round student 1 cs) (choice_rows round student 1 ds) → cs ≡ ds
  unfolding choice_of
  choices_same cs ds same =
      let rows : IsPermutation (map choice_row (placed 1 cs)) (map choice_row (placed 1 ds)) =
      from_same (sym (as_placed 1 cs)) (to_same same (as_placed 1 ds)) in
      sym (chosen 1 cs) ∙ ap (map (λ (p : ℕ × List ℕ). p.1)) (entries_same place_key _ _ (placed_rise 1 cs) (placed_rise 1 ds) (rows_same choice_row choice_of (λ p. refl) _ _ rows)) ∙ chosen 1 ds

-- ---- the rows of one list

module _ {E X : Type 0} (key : E → Key) (rows : E → List X) (k : Key) (picks : X → Bool) where
  -- where a test picks rows of the entry with the key alone, it picks of all rows those that it picks of that
  pub picked : ((e : E) → same_key k (key e) ≡ false → filter picks (rows e) ≡ []) → (es : List E) → rises key es ≡ true
      → filter picks (flat_map rows es) ≡ option_map_or (λ e. filter picks (rows e)) (find key k es) []
  picked none [] rise = refl
  picked none (e ∷ es) rise = filter-append picks (rows e) (flat_map rows es) ∙ by (same_key k (key e)) refl (picked none es (second_so (is_below key (key e) es) (rises key es) rise))
    where
      by : (b : Bool) → same_key k (key e) ≡ b → filter picks (flat_map rows es) ≡ option_map_or (λ e. filter picks (rows e)) (find key k es) []
          → filter picks (rows e) ++ filter picks (flat_map rows es) ≡ option_map_or (λ e. filter picks (rows e)) (cond b (Some e) (find key k es)) []
      by true is h =
          let below : is_below key k es ≡ true = subst (λ q. is_below key q es ≡ true) (sym (keys_exact k (key e) (is_equal _ is))) (first_so (is_below key (key e) es) (rises key es) rise) in
          ap (λ xs. filter picks (rows e) ++ xs) (h ∙ ap (λ x. option_map_or (λ e. filter picks (rows e)) x []) (find_below key k es below)) ∙ append-nil _
      by false is h = (λ i. none e is i ++ h i)

module _ (n : ℕ) (s : List ℕ) where
  -- whether a row is one of the list
  abbrev picks : Cells → Bool
  picks row = begins (head n s) row

  -- of a list of the round all rows are, or none
  own : (l : Listed) → filter picks (list_rows n l) ≡ cond (same_key (0, s) (list_key l)) (list_rows n l) []
  own l = filter_alike picks (same_key (0, s) (list_key l)) (list_rows n l) (own_begin n s l)

  -- an office's rows that begin so are those of what the student lists in the round
  pub rows_are : (o : State) → IsShaped o → filter picks (flat_map rows_of_round o.rounds) ≡ choice_rows n s 1 (choices_in o n s)
  rows_are o shaped = picked round_key rows_of_round (n, []) picks (λ r other. filter_none picks (rows_of_round r) (others_begin n s r other)) o.rounds shaped.rounds_rise ∙ in_round (round_of o n) refl
    where
      of_list : (ls : List Listed) (x : Option Listed) → find list_key (0, s) ls ≡ x → option_map_or (λ l. filter picks (list_rows n l)) x [] ≡ choice_rows n s 1 (option_map_or (λ (l : Listed). l.choices) x [])
      of_list ls None is = refl
      of_list ls (Some l) is =
          let same : (0, s) ≡ list_key l = found_key list_key (0, s) ls l is in
          own l ∙ ap (λ b. cond b (list_rows n l) []) (ap (λ q. same_key q (list_key l)) same ∙ same_self (list_key l)) ∙ ap (λ (q : Key). choice_rows n q.1 1 l.choices) (sym same)

      in_round : (x : Option RoundEntry) → round_of o n ≡ x → option_map_or (λ r. filter picks (rows_of_round r)) x [] ≡ choice_rows n s 1 (option_map_or (λ (l : Listed). l.choices) (find list_key (0, s) (option_map_or (λ r. r.lists) x [])) [])
      in_round None is = refl
      in_round (Some r) is =
          let same : (n, []) ≡ round_key r = found_key round_key (n, []) o.rounds r is in
          let rise : rises list_key r.lists ≡ true = subst (λ (x : Option RoundEntry). rises list_key (option_map_or (λ r. r.lists) x []) ≡ true) is (shaped.lists_rise n) in
          ap (λ (q : Key). filter picks (flat_map (list_rows q.0) r.lists)) (sym same)
          ∙ picked list_key (list_rows n) (0, s) picks (λ l other. own l ∙ ap (λ b. cond b (list_rows n l) []) other) r.lists rise ∙ of_list r.lists (find list_key (0, s) r.lists) refl

-- offices with the same rows of choices have the same choices
pub same_choices : (o m : State) → IsShaped o → IsShaped m → IsPermutation (flat_map rows_of_round o.rounds) (flat_map rows_of_round m.rounds) → (n : ℕ) (s : List ℕ) → choices_in o n s ≡ choices_in m n s
same_choices o m fo fm same n s =
    choices_same n s _ _
    (from_same (sym (rows_are n s o fo)) (to_same (IsPermutation-filter (picks n s) _ _ same) (rows_are n s m fm)))
