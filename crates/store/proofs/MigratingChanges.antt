-- The changes that migrate an edition: old rows go by their keys, and come in the tables that took their tables' place, the aims of greedy
-- rounds next to them. A row that goes is one of the edition's, so none is left in an old table.
use Rattle.store.proofs.Common.{AnEdition, IsPermutation, ◌&&◌, ◌||◌, list_any, AllByRecursion, and_from, or_left, or_right, All-from_recursion, recursion_from_All, filter_passes, IsPermutation-refl, IsPermutation-trans, IsPermutation-map, IsPermutation-middle, All-permutation, filter-filter, filter_none, all_weaker, all_both, all-filter, Table, Edition, Round, RoundAim, Add, AllRows, SameRows, Cells, RowOf, begins, key_in, keyed, of_table, same_table, same_table_is, same_table_self, IsFit, aim_cells, rows_in, State, AreFree, after_both, fresh_both, change_elsewhere, nothing_transforms, from_same, to_same, First, Second, Third, AreRowsIn, migrating_changes, aim_of_round, aims_of, is_old, is_old_table, removal_of, renamed, renamed_row, renaming_changes, rows_in_edition, ◌≡◌, Bool, true, false, not, cond, List, [], ◌∷◌, ◌++◌, map, filter, refl, sym, ap, subst, ◌∙◌, append-nil}
use Rattle.schema.specs.Changes.{IsFresh, AreFresh, TransformsRows, after_change, after_changes}
use Rattle.office.proofs.changes.Keyed.{begins_self}
use Rattle.office.proofs.changes.Apart.{rows_apart, apart_free}
use Rattle.store.proofs.OtherNames.{is_in, rows_both, renamed_twice, swapped, aims_come, no_others, greedy_rows, first_else}

-- rows that are added stand next to those that were there
all_added : (rs : List RowOf) (rows : AllRows) (t : Table) → IsPermutation (after_changes (map Add rs) rows t) (of_table rs t ++ rows t)
all_added [] rows t = IsPermutation-refl _
all_added (r ∷ rs) rows t = IsPermutation-trans _ _ _ (all_added rs (after_change (Add r) rows) t) (by (is_in t r))
  where
    by : (b : Bool) → IsPermutation (of_table rs t ++ cond b (r.cells ∷ rows t) (rows t)) (map (λ r. r.cells) (cond b (r ∷ filter (is_in t) rs) (filter (is_in t) rs)) ++ rows t)
    by true = IsPermutation-middle (of_table rs t) r.cells (rows t)
    by false = IsPermutation-refl _

-- each is new where those of its table are
adds_fresh : (rs : List RowOf) (rows : AllRows) → ((t : Table) → AreFree t (of_table rs t) (rows t)) → AreFresh (map Add rs) rows
adds_fresh [] rows free = tt
adds_fresh (r ∷ rs) rows free = (
  first (is_in r.table r) (same_table_self r.table) (free r.table),
  adds_fresh rs (after_change (Add r) rows) (λ t. later t (is_in t r) (free t)),
)
  where
    first : (b : Bool) → b ≡ true → AreFree r.table (map (λ r. r.cells) (cond b (r ∷ filter (is_in r.table) rs) (filter (is_in r.table) rs))) (rows r.table) → IsFresh (Add r) rows
    first true is free = free.0
    first false is free = cc

    later : (t : Table) (b : Bool) → AreFree t (map (λ r. r.cells) (cond b (r ∷ filter (is_in t) rs) (filter (is_in t) rs))) (rows t) → AreFree t (of_table rs t) (cond b (r.cells ∷ rows t) (rows t))
    later t true free = free.1
    later t false free = free

-- ---- rows that go by their keys

-- whether the removal of a row takes these cells out of a table
abbrev takes : Table → Cells → RowOf → Bool
takes t cells r = is_in t r && begins (key_in r.table r.cells) cells

-- it takes the row itself
all_taken : (t : Table) (rs : List RowOf) → AllByRecursion (λ cells. list_any (takes t cells) rs ≡ true) (of_table rs t)
all_taken t [] = tt
all_taken t (r ∷ rs) = by (is_in t r) refl (all_weaker (λ cells. list_any (takes t cells) rs ≡ true) (λ cells. list_any (takes t cells) (r ∷ rs) ≡ true) (λ cells h. or_right (takes t cells r) (list_any (takes t cells) rs) h) (of_table rs t) (all_taken t rs))
  where
    by : (b : Bool) → is_in t r ≡ b → AllByRecursion (λ cells. list_any (takes t cells) (r ∷ rs) ≡ true) (of_table rs t)
        → AllByRecursion (λ cells. list_any (takes t cells) (r ∷ rs) ≡ true) (map (λ r. r.cells) (cond b (r ∷ filter (is_in t) rs) (filter (is_in t) rs)))
    by true is rest = (or_left (takes t r.cells r) (list_any (takes t r.cells) rs) (and_from (is_in t r) (begins (key_in r.table r.cells) r.cells) is (begins_self (keyed r.table) r.cells)), rest)
    by false is rest = rest

-- so where each is taken none is left
none_left : (t : Table) (rs : List RowOf) (rows : AllRows) → AllByRecursion (λ cells. list_any (takes t cells) rs ≡ true) (rows t) → after_changes (map removal_of rs) rows t ≡ []
none_left t [] rows all = none (rows t) all
  where
    none : (xs : List Cells) → AllByRecursion (λ cells. false ≡ true) xs → xs ≡ []
    none [] all = refl
    none (x ∷ xs) all = absurd (let no : false ≡ true = all.0 in cc)
none_left t (r ∷ rs) rows all = none_left t rs (after_change (removal_of r) rows) (by (is_in t r) all)
  where
    by : (b : Bool) → AllByRecursion (λ cells. ((b && begins (key_in r.table r.cells) cells) || list_any (takes t cells) rs) ≡ true) (rows t)
        → AllByRecursion (λ cells. list_any (takes t cells) rs ≡ true) (cond b (filter (λ cells. not (begins (key_in r.table r.cells) cells)) (rows t)) (rows t))
    by true all =
        let stays = λ (cells : Cells). not (begins (key_in r.table r.cells) cells) in
        let Taken = λ (cells : Cells). (begins (key_in r.table r.cells) cells || list_any (takes t cells) rs) ≡ true in
        all_both Taken (λ cells. stays cells ≡ true) (λ cells. list_any (takes t cells) rs ≡ true)
        (λ cells h stays. other (begins (key_in r.table r.cells) cells) (list_any (takes t cells) rs) h stays) (filter stays (rows t))
        (all-filter Taken stays (rows t) all) (recursion_from_All (λ cells. stays cells ≡ true) _ (filter_passes stays (rows t)))
      where
        other : (a b : Bool) → (a || b) ≡ true → not a ≡ true → b ≡ true
        other true b h stays = cc
        other false b h stays = h
    by false all = all

-- and in other tables all are
others_left : (t : Table) (rs : List RowOf) (rows : AllRows) → AllByRecursion (λ r. is_in t r ≡ false) rs → after_changes (map removal_of rs) rows t ≡ rows t
others_left t [] rows all = refl
others_left t (r ∷ rs) rows all = others_left t rs (after_change (removal_of r) rows) all.1 ∙ change_elsewhere (removal_of r) rows t all.0

-- rows that go are not added
removals_fresh : (rs : List RowOf) (rows : AllRows) → AreFresh (map removal_of rs) rows
removals_fresh [] rows = tt
removals_fresh (r ∷ rs) rows = (tt, removals_fresh rs (after_change (removal_of r) rows))

-- ---- old rows

-- the rows that are old
olds_pass : (rows : List RowOf) → AllByRecursion (λ r. is_old r ≡ true) (filter is_old rows)
olds_pass rows = recursion_from_All (λ r. is_old r ≡ true) _ (filter_passes is_old rows)

-- a row is old as its table is
old_as : (t : Table) (r : RowOf) → is_in t r ≡ true → is_old r ≡ is_old_table t
old_as t r is = ap is_old_table (sym (same_table_is t r.table is))

-- so old rows are of the old tables alone
old_in : (t : Table) → is_old_table t ≡ false → (r : RowOf) → is_old r ≡ true → is_in t r ≡ false
old_in t new r old = by (is_in t r) refl
  where
    by : (b : Bool) → is_in t r ≡ b → b ≡ false
    by true is = sym old ∙ old_as t r is ∙ new
    by false is = refl

-- and all rows of these are old
old_alone : (t : Table) → is_old_table t ≡ true → (rows : List RowOf) → of_table (filter is_old rows) t ≡ of_table rows t
old_alone t old rows = ap (map (λ r. r.cells)) (filter-filter (is_in t) is_old (λ r is. old_as t r is ∙ old) rows)

-- what took an old table's place is no old one, and neither has the aims; an office has no rows in an old one
took_new : (t : Table) → is_old_table (renamed t) ≡ true → is_old_table t ≡ false
took_new Edition h = cc
took_new _ h = cc

took_other : (t : Table) → is_old_table (renamed t) ≡ true → same_table t RoundAim ≡ false
took_other Edition h = cc
took_other _ h = cc

old_other : (t : Table) → is_old_table t ≡ true → same_table t RoundAim ≡ false
old_other Edition h = cc
old_other _ h = cc

none_old : (o : State) (t : Table) → is_old_table t ≡ true → rows_in o t ≡ []
none_old o Edition h = cc
none_old o _ h = cc

-- and a table that is neither keeps its name
own_name : (t : Table) → is_old_table t ≡ false → is_old_table (renamed t) ≡ false → renamed t ≡ t
own_name Edition old took = refl
own_name _ old took = cc

-- ---- a migration

-- Rows of an edition before the third, and what comes next to them: the aims of rounds alone.
module _ (e : AnEdition) (rows more : List RowOf) (o : State) (fit : IsFit o) (are : SameRows (of_table rows) (rows_in_edition e o))
    (was : (t : Table) → same_table t RoundAim ≡ false → rows_in_edition e o t ≡ rows_in o (renamed t)) (none : (t : Table) → same_table t RoundAim ≡ false → of_table more t ≡ [])
    (aims_free : AreFree RoundAim (of_table more RoundAim) (rows_in_edition e o RoundAim)) (aims : IsPermutation (of_table more RoundAim ++ rows_in_edition e o RoundAim) (rows_in o RoundAim)) where
  -- the edition's old rows
  abbrev left_behind : List RowOf
  left_behind = filter is_old rows

  -- the rows that come
  abbrev news : List RowOf
  news = map renamed_row left_behind ++ more

  -- what is left of the edition's rows
  abbrev left : AllRows
  left t = after_changes (map removal_of left_behind) (rows_in_edition e o) t

  -- all stay that are of no old table
  stay : (t : Table) → is_old_table t ≡ false → left t ≡ rows_in_edition e o t
  stay t new = others_left t left_behind (rows_in_edition e o) (all_weaker (λ r. is_old r ≡ true) (λ r. is_in t r ≡ false) (old_in t new) left_behind (olds_pass rows))

  -- and none of an old one
  gone : (t : Table) → is_old_table t ≡ true → left t ≡ []
  gone t old =
      let Taken = λ (cells : Cells). list_any (takes t cells) left_behind ≡ true in
      none_left t left_behind (rows_in_edition e o) (recursion_from_All Taken _ (All-permutation Taken _ _ (are t) (All-from_recursion Taken _
      (subst (AllByRecursion Taken) (old_alone t old rows) (all_taken t left_behind)))))

  -- what comes in a table that took no place comes next to the old rows
  beside : (t : Table) → is_old_table (renamed t) ≡ false → of_table news t ≡ of_table more t
  beside t new =
      rows_both t (map renamed_row left_behind) more
      ∙ ap (λ cells. cells ++ of_table more t) (swapped left_behind t ∙ ap (map (λ r. r.cells)) (filter_none (is_in (renamed t)) left_behind (all_weaker (λ r. is_old r ≡ true) (λ r. is_in (renamed t) r ≡ false) (old_in (renamed t) new) left_behind (olds_pass rows))))

  module _ (t : Table) (took : is_old_table (renamed t) ≡ true) where
    -- in one that took a place come the rows of the old one
    come : IsPermutation (of_table news t) (rows_in o t)
    come =
        from_same (rows_both t (map renamed_row left_behind) more ∙ (λ i. (swapped left_behind t ∙ old_alone (renamed t) took rows) i ++ none t (took_other t took) i) ∙ append-nil _)
        (to_same (are (renamed t)) (was (renamed t) (old_other (renamed t) took) ∙ ap (rows_in o) (renamed_twice t)))

    -- where no row was
    empty : left t ≡ []
    empty = stay t (took_new t took) ∙ was t (took_other t took) ∙ none_old o (renamed t) took

  -- what comes in a table is new there
  free : (t : Table) → AreFree t (of_table news t) (left t)
  free t = by t (is_old_table (renamed t)) (same_table t RoundAim) refl refl
    where
      by : (t : Table) (took aim : Bool) → is_old_table (renamed t) ≡ took → same_table t RoundAim ≡ aim → AreFree t (of_table news t) (left t)
      by t true aim took is = subst (AreFree t (of_table news t)) (sym (empty t took)) (apart_free t _ _ (come t took) (rows_apart o fit t))
      by t false true took is = subst (λ u. AreFree u (of_table news u) (left u)) (sym (same_table_is t RoundAim is))
          (subst (λ cells. AreFree RoundAim cells (left RoundAim)) (sym (beside RoundAim refl)) (subst (AreFree RoundAim (of_table more RoundAim)) (sym (stay RoundAim refl)) aims_free))
      by t false false took is = subst (λ cells. AreFree t cells (left t)) (sym (beside t took ∙ none t is)) tt

  -- and a table has then what comes, and what is left
  then : (t : Table) → IsPermutation (of_table news t ++ left t) (rows_in o t)
  then t = by t (is_old_table (renamed t)) (same_table t RoundAim) (is_old_table t) refl refl refl
    where
      by : (t : Table) (took aim old : Bool) → is_old_table (renamed t) ≡ took → same_table t RoundAim ≡ aim → is_old_table t ≡ old → IsPermutation (of_table news t ++ left t) (rows_in o t)
      by t true aim old took is was_old = from_same (ap (λ cells. of_table news t ++ cells) (empty t took) ∙ append-nil _) (come t took)
      by t false true old took is was_old = subst (λ u. IsPermutation (of_table news u ++ left u) (rows_in o u)) (sym (same_table_is t RoundAim is)) (from_same (λ i. beside RoundAim refl i ++ stay RoundAim refl i) aims)
      by t false false true took is was_old = from_same (λ i. (beside t took ∙ none t is) i ++ gone t was_old i) (to_same (IsPermutation-refl _) (sym (none_old o t was_old)))
      by t false false false took is was_old = from_same (λ i. (beside t took ∙ none t is) i ++ (stay t was_old ∙ was t is ∙ ap (rows_in o) (own_name t was_old took)) i) (IsPermutation-refl _)

  transforms : TransformsRows (renaming_changes rows more) (rows_in_edition e o) (rows_in o)
  transforms = record {
    fresh = fresh_both (map removal_of left_behind) (map Add news) (rows_in_edition e o) (removals_fresh left_behind (rows_in_edition e o)) (adds_fresh news left free);
    rows = λ t.
        from_same (ap (λ (rows : AllRows). rows t) (after_both (map removal_of left_behind) (map Add news) (rows_in_edition e o)))
        (IsPermutation-trans _ _ _ (all_added news left t) (then t));
  }

-- the changes transform the rows that a fit office has in an edition into those it has in the latest, and add none at a key that has one
pub changes_migrate : (e : AnEdition) (rows : List RowOf) (o : State) → IsFit o → AreRowsIn e rows o → TransformsRows (migrating_changes e rows) (rows_in_edition e o) (rows_in o)
changes_migrate Third rows o fit are = nothing_transforms (rows_in o)
changes_migrate Second rows o fit are = transforms Second rows [] o fit are.same (λ t other. refl) (λ t other. refl) tt (IsPermutation-refl _)
changes_migrate First rows o fit are = transforms First rows (aims_of rows) o fit are.same (first_else o) (no_others rows) (apart_free RoundAim _ _ aims (rows_apart o fit RoundAim)) (from_same (append-nil _) aims)
  where
    aims : IsPermutation (of_table (aims_of rows) RoundAim) (map aim_cells o.aims)
    aims =
        from_same (aims_come rows)
        (to_same (IsPermutation-map aim_of_round _ _ (are.same Round)) (greedy_rows o fit are.allowed))
