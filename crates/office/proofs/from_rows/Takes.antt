-- A row of a fit office is taken in when it comes in order. What is held and what is to come are together the rows of the office, and these
-- have different keys: so the row decodes to an entry of a new key. A choice is the next of its list, since those that come later are of no
-- earlier stage.
use Rattle.office.proofs.from_rows.Common.{◌&&◌, ◌||◌, nat_le, flat_map, IsPermutation, AllByRecursion, list_any, option_map_or, option_and_then, bytes_eq, and_from, eq-eqb, nat_tests, length-append, All-from_recursion, recursion_from_All, filter-append, All-permutation, IsPermutation-sym, IsPermutation-trans, length_permutation, list_any-IsPermutation, slice_get_within, IsPermutation-filter, all-flat_map, all_map, all_weaker, any_from_none, none_counted, none_from_any, RANKS, is_code, Text, Number, Table, Supervisor, Project, Student, Import, RoundAim, Choice, Placement, Cells, RowOf, begins, key_in, keyed, of_table, same_cell, same_table, RoundEntry, Listed, IsFit, SupervisorFits, StudentFits, ImportFits, Key, find, has, put, same_key, AreRowsOf, supervisor_cells, project_cells, student_cells, round_cells, aim_cells, placement_cells, import_cells, choice_cells, choice_rows, list_rows, rows_of_round, rows_in, State, empty, supervisor_key, project_key, student_key, round_key, aim_key, list_key, placement_key, import_key, has_round, round_of, choices_in, bytes_self, fit_shaped, StandsIn, each_found, begins_both, begins_self, code_test, number_test, where_so, supervisor_in, project_in, student_in, round_in, aim_in, placement_in, import_in, after_cells, choices_among, gathered, place_in, stage_in, staged, with_choice, with_new, with_next, ◌≡◌, ℕ, zero, suc, ◌+◌, ◌<◌, ◌≤◌, Bool, true, false, cond, List, [], ◌∷◌, ◌++◌, map, filter, length, drop, Option, Some, None, is_some, slice_get, refl, sym, ap, subst, ◌∙◌, arith, IsListed, listed, project_code, student_code, ◌==◌, first_so, IsShaped, and_true}
use Rattle.std.proofs.lemmas.List.Folds.{list_any-append}
use Rattle.schema.specs.declared.table.Table.TheVariants.{Round}
use Rattle.schema.proofs.Tables.{same_table_is}
use Rattle.office.specs.changes.Apart.{AreApart}
use Rattle.office.proofs.changes.Apart.{rows_apart}
use Rattle.office.proofs.changes.Determine.{shaped_determine}
use Rattle.office.proofs.from_rows.Tests.{within, not_true}
use Rattle.office.proofs.from_rows.Decoded.{ProjectForm, PlacementForm, AimForm, supervisor_decoded, project_decoded, student_decoded, round_decoded, round_aim_decoded, placement_decoded, import_decoded, supervisor_read, project_read, student_read, round_read, round_aim_read, placement_read, import_read}
use Rattle.office.proofs.from_rows.Taken.{AreOf, IsDrafted, RoundForm, drafted_shaped, empty_drafted, taken}
use Rattle.office.proofs.from_rows.Gathered.{gathered_drafted, gathered_rows, moved, staged_rows, with_held}
use Rattle.office.proofs.from_rows.Stages.{AreInStages, IsNoSooner, in_stages}
use Rattle.office.proofs.from_rows.FitDrafted.{fit_drafted, lists_found}
use Rattle.std.proofs.lemmas.Map.Views.{any-filter_same}
use Rattle.office.proofs.changes.Choices.{rows_are}
use Rattle.office.proofs.changes.Lists.{head}

or_false : (b : Bool) → (b || false) ≡ b
or_false true = refl
or_false false = refl

module _ (n : ℕ) (s c : List ℕ) where
  -- whether a row is that of a choice at a place
  abbrev is_at : ℕ → Cells → Bool
  is_at p row = begins (choice_cells n s p c) row

  its_place : (p m : ℕ) (x : List ℕ) → is_at p (choice_cells n s m x) ≡ ((p == m) && bytes_eq c x)
  its_place p m x = λ i. eq-eqb n n refl i && (bytes_self s i && ((p == m) && and_true (bytes_eq c x) i))

  other_place : (p m : ℕ) (x : List ℕ) → (p ≡ m → ⊥) → is_at p (choice_cells n s m x) ≡ false
  other_place p m x apart = let other : (p == m) ≡ false = grind (arith, nat_tests, apart) in its_place p m x ∙ ap (λ b. b && bytes_eq c x) other

  none_before : (p m : ℕ) (cs : List (List ℕ)) → p < m → list_any (is_at p) (choice_rows n s m cs) ≡ false
  none_before p m [] l = refl
  none_before p m (x ∷ cs) l = λ i. other_place p m x (λ e. omega (arith, l, e)) i || none_before p (suc m) cs (omega (arith, l)) i

  any_at : (m : ℕ) (cs : List (List ℕ)) (j : ℕ) → list_any (is_at (j + m)) (choice_rows n s m cs) ≡ option_map_or (bytes_eq c) (slice_get cs j) false
  any_at m [] zero = refl
  any_at m [] (suc j) = refl
  any_at m (x ∷ cs) zero =
      (λ i. (its_place (0 + m) m x ∙ ap (λ b. b && bytes_eq c x) (eq-eqb (0 + m) m (omega arith))) i || none_before (0 + m) (suc m) cs (omega arith) i) ∙ or_false (bytes_eq c x)
  any_at m (x ∷ cs) (suc j) =
      let next : suc j + m ≡ j + suc m = omega arith in
      (λ i. other_place (suc j + m) m x (λ e. omega (arith, e)) i || list_any (is_at (next i)) (choice_rows n s (suc m) cs)) ∙ any_at (suc m) cs j

  -- an office has the row of a choice at a place where the student lists it there
  pub any_choice : (o : State) → IsShaped o → (j : ℕ) → list_any (is_at (suc j)) (flat_map rows_of_round o.rounds) ≡ option_map_or (bytes_eq c) (slice_get (choices_in o n s) j) false
  any_choice o shaped j =
      let next : suc j ≡ j + 1 = omega arith in
      sym (any-filter_same (is_at (suc j)) (λ row. begins (head n s) row) true (λ row h. first_so _ _ (sym (begins_both (head n s) (Number (suc j) ∷ Text c ∷ []) row) ∙ h)) (flat_map rows_of_round o.rounds))
      ∙ (λ i. list_any (is_at (next i)) (rows_are n s o shaped i)) ∙ any_at 1 (choices_in o n s) j

-- ---- one of many rows

-- what holds of each row holds of the first of the same rows
of_first : (P : Cells → Type 0) (row : Cells) (xs zs : List Cells) → IsPermutation (row ∷ xs) zs → AllByRecursion P zs → P row
of_first P row xs zs same all = (recursion_from_All P (row ∷ xs) (All-permutation P zs (row ∷ xs) (IsPermutation-sym _ _ same) (All-from_recursion P zs all))).0

-- where rows have different keys no other has its key
free : (t : Table) (row : Cells) (xs ys zs : List Cells) → IsPermutation (row ∷ (xs ++ ys)) zs → AreApart t zs → list_any (begins (key_in t row)) ys ≡ false
free t row xs ys zs same apart =
    let alone = of_first (λ r. length (filter (begins (key_in t r)) zs) ≤ 1) row (xs ++ ys) zs same apart in
    let sizes = length_permutation _ _ (IsPermutation-filter (begins (key_in t row)) _ _ same) in
    let first = ap (λ b. length (cond b (row ∷ filter (begins (key_in t row)) (xs ++ ys)) (filter (begins (key_in t row)) (xs ++ ys)))) (begins_self (keyed t) row) in
    let both = ap length (filter-append (begins (key_in t row)) xs ys) ∙ length-append (filter (begins (key_in t row)) xs) (filter (begins (key_in t row)) ys) in
    let none : length (filter (begins (key_in t row)) ys) ≡ 0 = omega (arith, alone, sizes, first, both) in
    not_true _ (sym (none_counted (begins (key_in t row)) ys) ∙ eq-eqb _ _ none)

-- a test that picks the entries with a key finds one among the rows where there is one
has_row : {E : Type 0} (key : E → Key) (cells : E → Cells) (test : Cells → Bool) (k : Key) → ((e : E) → test (cells e) ≡ same_key k (key e)) → (es : List E) → list_any test (map cells es) ≡ has key k es
has_row key cells test k tells [] = refl
has_row key cells test k tells (e ∷ es) = ap (λ b. b || list_any test (map cells es)) (tells e) ∙ by (same_key k (key e)) (has_row key cells test k tells es)
  where
    by : (b : Bool) → list_any test (map cells es) ≡ has key k es → (b || list_any test (map cells es)) ≡ is_some (cond b (Some e) (find key k es))
    by true h = refl
    by false h = h

-- ---- a row of an entry

module _ (t : Table) {E : Type 0} (key : E → Key) (cells : E → Cells) (entry : Cells → Option E) (Form : E → Type 0) (back : E → E) where
  -- where each of the office's entries is decoded from its row, and rows give keys, a row of the office is taken in
  entry_takes : ((e : E) → Form e → entry (cells e) ≡ Some (back e)) → ((row : Cells) (e : E) → entry row ≡ Some e → cells e ≡ row)
      → ((e x : E) → begins (key_in t (cells e)) (cells x) ≡ same_key (key e) (key x)) → (held : List E → State) (row : Cells) (xs : List Cells) (es ws : List E)
      → AreOf key Form ws → AreApart t (map cells ws) → IsPermutation (row ∷ (xs ++ map cells es)) (map cells ws) → (n : State) × (with_new key es held (entry row) ≡ Some n)
  entry_takes read is_row tells held row xs es ws are apart same =
      let decoded = of_first (λ r. (e : E) × (entry r ≡ Some e)) row (xs ++ map cells es) (map cells ws) same (all_map _ cells ws (all_weaker Form _ (λ e form. (back e, read e form)) ws are.each)) in
      let new : has key (key decoded.0) es ≡ false =
      sym (has_row key cells (begins (key_in t (cells decoded.0))) (key decoded.0) (tells decoded.0) es)
      ∙ ap (λ r. list_any (begins (key_in t r)) (map cells es)) (is_row row decoded.0 decoded.1) ∙ free t row xs (map cells es) (map cells ws) same apart in
      (held (put key decoded.0 es), ap (with_new key es held) decoded.1 ∙ ap (λ b. cond b None (Some (held (put key decoded.0 es)))) new)

-- ---- a row of a choice

-- the row of a choice of an office
record IsChosen (w : State) (row : Cells) : Type 0 where
  round : ℕ
  student : List ℕ
  at : ℕ
  project : List ℕ
  is : choice_cells round student (suc at) project ≡ row
  there : slice_get (choices_in w round student) at ≡ Some project

module _ (w : State) (n : ℕ) (s : List ℕ) where
  chosen_from : (i : ℕ) (cs : List (List ℕ)) → ((j : ℕ) (c : List ℕ) → slice_get cs j ≡ Some c → slice_get (choices_in w n s) (j + i) ≡ Some c) → AllByRecursion (IsChosen w) (choice_rows n s (suc i) cs)
  chosen_from i [] there = tt
  chosen_from i (c ∷ cs) there =
      let here : 0 + i ≡ i = omega arith in (
        record { round = n; student = s; at = i; project = c; is = refl; there = ap (slice_get (choices_in w n s)) (sym here) ∙ there 0 c refl },
        chosen_from (suc i) cs (λ j d h. (let next : j + suc i ≡ suc j + i = omega arith in ap (slice_get (choices_in w n s)) next ∙ there (suc j) d h)),
      )

-- so are all its rows of choices
all_chosen : (w : State) → IsDrafted w → AllByRecursion (IsChosen w) (flat_map rows_of_round w.rounds)
all_chosen w d = all-flat_map (IsChosen w) rows_of_round w.rounds (of_rounds w.rounds (d Round).each (each_found round_key w.rounds (d Round).rise))
  where
    of_list : (r : RoundEntry) → StandsIn round_key w.rounds r → (l : Listed) → StandsIn list_key r.lists l → AllByRecursion (IsChosen w) (list_rows r.number l)
    of_list r is l it =
        let same : choices_in w r.number l.student ≡ l.choices = ap (choices_among l.student) (lists_found w r is) ∙ ap (λ (x : Option Listed). option_map_or (λ l. l.choices) x []) it in
        chosen_from w r.number l.student 0 l.choices (λ j c h. (let here : j + 0 ≡ j = omega arith in (λ i. slice_get (same i) (here i)) ∙ h))

    of_rounds : (rs : List RoundEntry) → AllByRecursion RoundForm rs → AllByRecursion (StandsIn round_key w.rounds) rs → AllByRecursion (λ r. AllByRecursion (IsChosen w) (rows_of_round r)) rs
    of_rounds [] forms found = tt
    of_rounds (r ∷ rs) forms found = (
      all-flat_map (IsChosen w) (list_rows r.number) r.lists (all_weaker (StandsIn list_key r.lists) (λ l. AllByRecursion (IsChosen w) (list_rows r.number l)) (of_list r found.0) r.lists (each_found list_key r.lists forms.0.rise)),
      of_rounds rs forms.1 found.1,
    )

-- a test that no row of a table from a stage on passes finds none to come
none_to_come : (t : Table) (test : Cells → Bool) (stage : ℕ) → ((row : Cells) → stage ≤ stage_in t row → test row ≡ false) → (rest : List RowOf) → AllByRecursion (IsNoSooner stage) rest → list_any test (of_table rest t) ≡ false
none_to_come t test stage fails [] later = refl
none_to_come t test stage fails (r ∷ rest) later = by (same_table t r.table) refl (none_to_come t test stage fails rest later.1)
  where
    by : (b : Bool) → same_table t r.table ≡ b → list_any test (of_table rest t) ≡ false
        → list_any test (map (λ (r : RowOf). r.cells) (cond b (r ∷ filter (λ r. same_table t r.table) rest) (filter (λ r. same_table t r.table) rest))) ≡ false
    by true is h = ap (λ b. b || list_any test (of_table rest t)) (fails r.cells (subst (λ u. stage ≤ stage_in u r.cells) (sym (same_table_is t r.table is)) later.0)) ∙ h
    by false is h = h

-- a choice at an earlier place is not to come
earlier : (n : ℕ) (s : List ℕ) (p : ℕ) (c row : Cells) → p < place_in row → begins (Number n ∷ Text s ∷ Number p ∷ c) row ≡ false
earlier n s p c (a ∷ b ∷ Number place ∷ d ∷ []) l = by (nat_le place RANKS) l
  where
    by : (few : Bool) → p < cond few place 0 → begins (Number n ∷ Text s ∷ Number p ∷ c) (a ∷ b ∷ Number place ∷ d ∷ []) ≡ false
    by true l =
        let other : (p == place) ≡ false = grind (arith, nat_tests, l) in
        ap (λ e. same_cell (Number n) a && (same_cell (Text s) b && (e && begins c (d ∷ [])))) other ∙ neither (same_cell (Number n) a) (same_cell (Text s) b)
      where
        neither : (a b : Bool) → (a && (b && false)) ≡ false
        neither true true = refl
        neither true false = refl
        neither false b = refl
    by false l = absurd (omega (arith, l))
earlier n s p c _ l = absurd (omega (arith, l))

-- ---- places of a list

not_past : (xs : List (List ℕ)) (k : ℕ) → slice_get xs k ≡ None → length xs ≤ k
not_past [] k h = omega arith
not_past (x ∷ xs) zero h = cc
not_past (x ∷ xs) (suc k) h = let rest = not_past xs k h in omega (arith, rest)

before : (xs : List (List ℕ)) (k : ℕ) (c : List ℕ) → slice_get xs k ≡ Some c → (j : ℕ) → j < k → (x : List ℕ) × (slice_get xs j ≡ Some x)
before [] k c h j l = cc
before (x ∷ xs) zero c h j l = absurd (omega (arith, l))
before (x ∷ xs) (suc k) c h zero l = (x, refl)
before (x ∷ xs) (suc k) c h (suc j) l = before xs k c h j (omega (arith, l))

found_within : (test : List ℕ → Bool) (xs : List (List ℕ)) (j : ℕ) → option_map_or test (slice_get xs j) false ≡ true → j < length xs
found_within test xs j h = by (slice_get xs j) refl h
  where
    by : (x : Option (List ℕ)) → slice_get xs j ≡ x → option_map_or test x false ≡ true → j < length xs
    by None is h = cc
    by (Some x) is h = slice_get_within xs j x is

-- what is held and what is to come are together the rows of an office
abbrev Together : State → State → List RowOf → Type 0
Together w o rows = (table : Table) → IsPermutation (with_held rows o table) (rows_in w table)

module _ (w : State) (fit : IsFit w) (o : State) (d : IsDrafted o) (n : ℕ) (s : List ℕ) (i : ℕ) (c : List ℕ) (there : slice_get (choices_in w n s) i ≡ Some c) (rest : List RowOf)
    (later : AllByRecursion (IsNoSooner (place_in (choice_cells n s (suc i) c))) rest) (same : Together w o (record { table = Choice; cells = choice_cells n s (suc i) c } ∷ rest)) where
  here : IsListed w n s i c
  here = listed w fit.lists_fit n s i c there

  its_stage : place_in (choice_cells n s (suc i) c) ≡ suc i
  its_stage = ap (λ b. cond b (suc i) 0) (within (suc i) RANKS (omega (arith, here.few)))

  -- what no row from this stage on passes is held where the office has it
  held_too : (t : Table) (test : Cells → Bool) → ((row : Cells) → suc i ≤ stage_in t row → test row ≡ false) → list_any test (rows_in o t) ≡ list_any test (rows_in w t)
  held_too t test fails =
      let to_come : List RowOf = record { table = Choice; cells = choice_cells n s (suc i) c } ∷ rest in
      let none = none_to_come t test (suc i) fails to_come (omega (arith, its_stage), subst (λ p. AllByRecursion (IsNoSooner p) rest) its_stage later) in
      sym (list_any-append test (of_table to_come t) (rows_in o t) ∙ ap (λ b. b || list_any test (rows_in o t)) none) ∙ list_any-IsPermutation test _ _ (same t)

  -- so is the round
  round_held : has_round o n ≡ true
  round_held =
      sym (has_row round_key round_cells (begins (Number n ∷ [])) (n, []) (λ e. number_test n e.number) o.rounds) ∙ held_too Round (begins (Number n ∷ [])) (λ row l. absurd (omega (arith, l)))
      ∙ has_row round_key round_cells (begins (Number n ∷ [])) (n, []) (λ e. number_test n e.number) w.rounds ∙ here.round

  -- and so are the choices before it
  before_held : (k : ℕ) → k ≤ i → k ≤ length (choices_in o n s)
  before_held zero l = omega arith
  before_held (suc j) l =
      let x = before (choices_in w n s) i c there j l in
      found_within (bytes_eq x.0) (choices_in o n s) j (sym (any_choice n s x.0 o (drafted_shaped o d) j)
      ∙ held_too Choice (begins (choice_cells n s (suc j) x.0)) (λ row later. earlier n s (suc j) (Text x.0 ∷ []) row (omega (arith, l, later)))
      ∙ any_choice n s x.0 w (fit_shaped w fit) j ∙ ap (λ y. option_map_or (bytes_eq x.0) y false) x.1 ∙ bytes_self x.0)

  -- at its own place nothing is held
  not_held : (x : Option (List ℕ)) → slice_get (choices_in o n s) i ≡ x → x ≡ None
  not_held None is = refl
  not_held (Some x) is =
      let key : Cells = Number n ∷ Text s ∷ Number (suc i) ∷ [] in
      let no = free Choice (choice_cells n s (suc i) c) (of_table rest Choice) (rows_in o Choice) (rows_in w Choice) (same Choice) (rows_apart w fit Choice) in
      let none = any_from_none (begins (choice_cells n s (suc i) x)) (rows_in o Choice) (all_weaker (λ row. begins key row ≡ false) (λ row. begins (choice_cells n s (suc i) x) row ≡ false)
      (λ row h. begins_both key (Text x ∷ []) row ∙ ap (λ b. b && begins (Text x ∷ []) (drop 3 row)) h) (rows_in o Choice) (none_from_any (begins key) (rows_in o Choice) no)) in
      let e : false ≡ true = sym none ∙ any_choice n s x o (drafted_shaped o d) i ∙ ap (λ y. option_map_or (bytes_eq x) y false) is ∙ bytes_self x in
      cc

  choice_takes : (m : State) × (after_cells o Choice (choice_cells n s (suc i) c) ≡ Some m)
  choice_takes = by (round_of o n) refl
    where
      by : (x : Option RoundEntry) → round_of o n ≡ x → (m : State) × (after_cells o Choice (choice_cells n s (suc i) c) ≡ Some m)
      by None is = let no : false ≡ true = sym (ap is_some is) ∙ round_held in cc
      by (Some r) is =
          let new : State = record o { rounds = put round_key (record r { lists = with_choice s c r.lists }) o.rounds } in
          let long = before_held i (omega arith) in
          let short = not_past (choices_in o n s) i (not_held (slice_get (choices_in o n s) i) refl) in
          let place : (length (choices_in o n s) + 1 == suc i) ≡ true = grind (arith, nat_tests, long, short) in
          let listed_so : choices_in o n s ≡ choices_among s r.lists = ap (λ (x : Option RoundEntry). choices_among s (option_map_or (λ r. r.lists) x [])) is in (
            new,
            ap (λ b. cond b (with_next o s (suc i) c (round_of o n)) None) (and_from (is_code s) (is_code c) (student_code w fit s here.student) (project_code w fit c here.project))
                ∙ ap (with_next o s (suc i) c) is ∙ ap (λ b. where_so b new) (ap (λ cs. length cs + 1 == suc i) (sym listed_so) ∙ place),
          )

-- ---- any row

no_rows : (row : Cells) (xs : List Cells) → IsPermutation (row ∷ xs) [] → ⊥
no_rows row xs same = let sizes = length_permutation _ _ same in omega (arith, sizes)

module _ (w : State) (fit : IsFit w) where
  chosen_takes : (o : State) → IsDrafted o → (row : Cells) (rest : List RowOf) → AllByRecursion (IsNoSooner (place_in row)) rest → Together w o (record { table = Choice; cells = row } ∷ rest) → IsChosen w row
      → (n : State) × (after_cells o Choice row ≡ Some n)
  chosen_takes o d row rest later same chosen =
      subst (λ row. AllByRecursion (IsNoSooner (place_in row)) rest → Together w o (record { table = Choice; cells = row } ∷ rest) → (n : State) × (after_cells o Choice row ≡ Some n)) chosen.is
      (choice_takes w fit o d chosen.round chosen.student chosen.at chosen.project chosen.there rest) later same

  takes : (o : State) → IsDrafted o → (t : Table) (row : Cells) (rest : List RowOf) → AllByRecursion (IsNoSooner (stage_in t row)) rest → Together w o (record { table = t; cells = row } ∷ rest) → (n : State) × (after_cells o t row ≡ Some n)
  takes o d Supervisor row rest later same =
      entry_takes Supervisor supervisor_key supervisor_cells supervisor_in SupervisorFits (λ e. e) supervisor_read (λ row e h. (supervisor_decoded row e h).is) (λ e x. code_test e.code x.code)
      (λ es. record o { supervisors = es }) row (of_table rest Supervisor) o.supervisors w.supervisors (fit_drafted w fit Supervisor) (rows_apart w fit Supervisor) (same Supervisor)
  takes o d Project row rest later same =
      entry_takes Project project_key project_cells project_in ProjectForm (λ e. e) project_read (λ row e h. (project_decoded row e h).is) (λ e x. code_test e.code x.code)
      (λ es. record o { projects = es }) row (of_table rest Project) o.projects w.projects (fit_drafted w fit Project) (rows_apart w fit Project) (same Project)
  takes o d Student row rest later same =
      entry_takes Student student_key student_cells student_in StudentFits (λ e. e) student_read (λ row e h. (student_decoded row e h).is) (λ e x. code_test e.code x.code)
      (λ es. record o { students = es }) row (of_table rest Student) o.students w.students (fit_drafted w fit Student) (rows_apart w fit Student) (same Student)
  takes o d Round row rest later same =
      entry_takes Round round_key round_cells round_in RoundForm (λ e. record e { lists = [] }) (λ e form. round_read e) (λ row e h. (round_decoded row e h).is) (λ e x. number_test e.number x.number)
      (λ es. record o { rounds = es }) row (of_table rest Round) o.rounds w.rounds (fit_drafted w fit Round) (rows_apart w fit Round) (same Round)
  takes o d RoundAim row rest later same =
      entry_takes RoundAim aim_key aim_cells aim_in AimForm (λ e. e) (λ e form. round_aim_read e) (λ row e h. (round_aim_decoded row e h).is) (λ e x. number_test e.round x.round)
      (λ es. record o { aims = es }) row (of_table rest RoundAim) o.aims w.aims (fit_drafted w fit RoundAim) (rows_apart w fit RoundAim) (same RoundAim)
  takes o d Choice row rest later same =
      chosen_takes o d row rest later same (of_first (IsChosen w) row (of_table rest Choice ++ rows_in o Choice) (rows_in w Choice) (same Choice) (all_chosen w (fit_drafted w fit)))
  takes o d Placement row rest later same =
      entry_takes Placement placement_key placement_cells placement_in PlacementForm (λ e. e) placement_read (λ row e h. (placement_decoded row e h).is) (λ e x. code_test e.student x.student)
      (λ es. record o { placements = es }) row (of_table rest Placement) o.placements w.placements (fit_drafted w fit Placement) (rows_apart w fit Placement) (same Placement)
  takes o d Import row rest later same =
      entry_takes Import import_key import_cells import_in ImportFits (λ e. e) import_read (λ row e h. (import_decoded row e h).is) (λ e x. code_test e.id x.id)
      (λ es. record o { imports = es }) row (of_table rest Import) o.imports w.imports (fit_drafted w fit Import) (rows_apart w fit Import) (same Import)
  takes o d t row rest later same = absurd (no_rows row _ (same t))

  all_take : (o : State) → IsDrafted o → (rows : List RowOf) → AreInStages rows → Together w o rows → (t : State) × (gathered o rows ≡ Some t)
  all_take o d [] order same = (o, refl)
  all_take o d (r ∷ rows) order same =
      let step = takes o d r.table r.cells rows order.0 same in
      let here = taken o d r.table r.cells step.0 step.1 in
      let rest = all_take step.0 (λ table. (here table).1) rows order.1 (λ table. IsPermutation-trans _ _ _ (IsPermutation-sym _ _ (moved o r rows step.0 here table)) (same table)) in
      (rest.0, ap (option_and_then (λ n. gathered n rows)) step.1 ∙ rest.1)

-- where nothing is gathered, no fit office has the rows
pub unread_unfit : (rows : List RowOf) → gathered empty (staged rows) ≡ None → (w : State) → IsFit w → AreRowsOf rows w → ⊥
unread_unfit rows none w fit are =
    let some = all_take w fit empty empty_drafted (staged rows) (in_stages (RANKS + 1) 0 rows).1 (λ table. IsPermutation-trans _ _ _ (IsPermutation-sym _ _ (staged_rows rows table)) (are table)) in
    let e : None ≡ Some some.0 = sym none ∙ some.1 in
    cc

-- a fit office with the rows is what is gathered
pub gathered_is : (rows : List RowOf) (t : State) → gathered empty (staged rows) ≡ Some t → (w : State) → IsFit w → AreRowsOf rows w → t ≡ w
gathered_is rows t h w fit are =
    shaped_determine t w (drafted_shaped t (gathered_drafted rows t h)) (fit_shaped w fit) (λ table. IsPermutation-trans _ _ _ (IsPermutation-sym _ _ (gathered_rows rows t h table)) (are table))
