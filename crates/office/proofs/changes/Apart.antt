-- The rows of an office have different keys: those of entries as the entries do, and those of choices by their lists and their places
-- there.
use Rattle.office.proofs.changes.Common.{flat_map, IsPermutation, ◌&&◌, ◌==◌, AllByRecursion, list_any, option_map_or, first_so, eq-eqb, All-from_recursion, recursion_from_All, IsPermutation-sym, All-permutation, length_permutation, IsPermutation-filter, none_counted, all_weaker, filter-filter, flat_map-map, flat_map-one, all-map, all-flat_map, all_of, Number, Table, Supervisor, Project, Student, Round, Import, RoundAim, Choice, Placement, Cells, begins, keyed, key_in, Key, same_key, find, rises, State, supervisor_key, project_key, student_key, round_key, aim_key, placement_key, import_key, choices_in, IsFit, choice_rows, list_rows, rows_of_round, supervisor_cells, project_cells, student_cells, round_cells, aim_cells, placement_cells, import_cells, bytes_self, fit_shaped, RowsApart, not, ◌+◌, ◌≡◌, ℕ, suc, ◌≤◌, Bool, true, false, cond, length, List, [], ◌∷◌, map, Option, Some, None, refl, sym, ap, subst, ◌∙◌, arith, filter}
use Rattle.office.specs.changes.Apart.{AreApart}
use Rattle.office.proofs.changes.Keyed.{begins_both, begins_self}
use Rattle.office.proofs.changes.Changes.{AreFree}
use Rattle.office.proofs.changes.KeyTests.{number_test, code_test}
use Rattle.office.proofs.changes.Lists.{head, choice_key}
use Rattle.office.proofs.changes.Choices.{picked, placed, place_key, placed_rise, choice_row, as_placed, rows_are}

-- a test of entries by a key picks the row of one at most
module _ {E X : Type 0} (key : E → Key) (row : E → X) (k : Key) (picks : X → Bool) (tells : (e : E) → picks (row e) ≡ same_key k (key e)) where
  at_most : (x : Option E) → length (option_map_or (λ e. filter picks (row e ∷ [])) x []) ≤ 1
  at_most None = omega arith
  at_most (Some e) = by (picks (row e))
    where
      by : (b : Bool) → length (cond b (row e ∷ []) []) ≤ 1
      by true = omega arith
      by false = omega arith

  pub one_picked : (es : List E) → rises key es ≡ true → length (filter picks (map row es)) ≤ 1
  one_picked es rise =
      subst (λ xs. length xs ≤ 1) (sym (ap (filter picks) (sym (flat_map-one (map row es)) ∙ flat_map-map (λ x. x ∷ []) row es)
      ∙ picked key (λ e. row e ∷ []) k picks (λ e other. ap (λ b. cond b (row e ∷ []) []) (tells e ∙ other)) es rise)) (at_most (find key k es))

-- so the rows of entries have different keys
entries_apart : {E : Type 0} (key : E → Key) (row : E → Cells) (t : Table) → ((e x : E) → begins (key_in t (row e)) (row x) ≡ same_key (key e) (key x)) → (es : List E) → rises key es ≡ true → AreApart t (map row es)
entries_apart key row t tells es rise =
    all-map (λ cells. length (filter (begins (key_in t cells)) (map row es)) ≤ 1) row (λ e. one_picked key row (key e) (begins (key_in t (row e))) (tells e) es rise) es

-- ---- choices

-- a place of a list is given by its number
place_tells : (n : ℕ) (s : List ℕ) (p : ℕ) (e : ℕ × List ℕ) → begins (choice_key n s p) (choice_row n s e) ≡ same_key (p, []) (place_key e)
place_tells n s p e = (λ i. eq-eqb n n refl i && (bytes_self s i && ((p == e.0) && true))) ∙ number_test p e.0

-- of an office's choices one at most has a key
choice_once : (o : State) → IsFit o → (n : ℕ) (s : List ℕ) (p : ℕ) → length (filter (begins (choice_key n s p)) (flat_map rows_of_round o.rounds)) ≤ 1
choice_once o fit n s p =
    subst (λ xs. length xs ≤ 1)
    (sym (sym (filter-filter (begins (choice_key n s p)) (begins (head n s)) (λ row h. first_so _ _ (sym (begins_both (head n s) (Number p ∷ []) row) ∙ h)) (flat_map rows_of_round o.rounds))
    ∙ ap (filter (begins (choice_key n s p))) (rows_are n s o (fit_shaped o fit) ∙ as_placed n s 1 (choices_in o n s))))
    (one_picked place_key (choice_row n s) (p, []) (begins (choice_key n s p)) (place_tells n s p) (placed 1 (choices_in o n s)) (placed_rise 1 (choices_in o n s)))

choices_apart : (o : State) → IsFit o → AreApart Choice (flat_map rows_of_round o.rounds)
choices_apart o fit =
    all-flat_map Alone rows_of_round o.rounds (all_of (λ r. AllByRecursion Alone (rows_of_round r)) (λ r.
    all-flat_map Alone (list_rows r.number) r.lists (all_of (λ l. AllByRecursion Alone (list_rows r.number l)) (λ l. each r.number l.student 1 l.choices) r.lists)) o.rounds)
  where
    Alone : Cells → Type 0
    Alone row = length (filter (begins (key_in Choice row)) (flat_map rows_of_round o.rounds)) ≤ 1

    each : (n : ℕ) (s : List ℕ) (place : ℕ) (cs : List (List ℕ)) → AllByRecursion Alone (choice_rows n s place cs)
    each n s place [] = tt
    each n s place (c ∷ cs) = (choice_once o fit n s place, each n s (suc place) cs)

pub rows_apart : RowsApart
rows_apart o fit Supervisor = entries_apart supervisor_key supervisor_cells Supervisor (λ e x. code_test e.code x.code) o.supervisors fit.supervisors.rise
rows_apart o fit Project = entries_apart project_key project_cells Project (λ e x. code_test e.code x.code) o.projects fit.projects.rise
rows_apart o fit Student = entries_apart student_key student_cells Student (λ e x. code_test e.code x.code) o.students fit.students.rise
rows_apart o fit Round = entries_apart round_key round_cells Round (λ e x. number_test e.number x.number) o.rounds (fit_shaped o fit).rounds_rise
rows_apart o fit RoundAim = entries_apart aim_key aim_cells RoundAim (λ e x. number_test e.round x.round) o.aims (fit_shaped o fit).aims_rise
rows_apart o fit Choice = choices_apart o fit
rows_apart o fit Placement = entries_apart placement_key placement_cells Placement (λ e x. code_test e.student x.student) o.placements fit.placements_rise
rows_apart o fit Import = entries_apart import_key import_cells Import (λ e x. code_test e.id x.id) o.imports fit.imports.rise
rows_apart o fit _ = tt

-- ---- rows that are added

-- rows of different keys have them in any order
apart_in : (t : Table) (xs ys : List Cells) → IsPermutation xs ys → AreApart t ys → AreApart t xs
apart_in t xs ys same apart =
    let Alone = λ (row : Cells). length (filter (begins (key_in t row)) xs) ≤ 1 in
    recursion_from_All Alone xs (All-permutation Alone ys xs (IsPermutation-sym _ _ same) (All-from_recursion Alone ys
    (all_weaker (λ row. length (filter (begins (key_in t row)) ys) ≤ 1) Alone (λ row h. subst (λ n. n ≤ 1) (length_permutation _ _ (IsPermutation-filter (begins (key_in t row)) xs ys same)) h) ys apart)))

-- where a test picks no row it says so of each
none_there : (p : Cells → Bool) (xs : List Cells) → length (filter p xs) ≤ 0 → list_any p xs ≡ false
none_there p xs none = (let is : length (filter p xs) ≡ 0 = omega (arith, none) in says (list_any p xs) (sym (none_counted p xs) ∙ eq-eqb _ _ is))
  where
    says : (b : Bool) → not b ≡ true → b ≡ false
    says true h = cc
    says false h = refl

-- so they are added at free keys, one after another
free_from : (t : Table) (new rows : List Cells) → AllByRecursion (λ row. length (filter (begins (key_in t row)) new) + length (filter (begins (key_in t row)) rows) ≤ 1) new → AreFree t new rows
free_from t [] rows all = tt
free_from t (r ∷ new) rows all = (
  first (begins (key_in t r) r) (begins_self (keyed t) r) all.0,
  free_from t new (r ∷ rows) (all_weaker (λ row. length (filter (begins (key_in t row)) (r ∷ new)) + length (filter (begins (key_in t row)) rows) ≤ 1)
      (λ row. length (filter (begins (key_in t row)) new) + length (filter (begins (key_in t row)) (r ∷ rows)) ≤ 1) (λ row h. moved (begins (key_in t row) r) (filter (begins (key_in t row)) new) (filter (begins (key_in t row)) rows) h) new all.1),
)
  where
    first : (b : Bool) → b ≡ true → length (cond b (r ∷ filter (begins (key_in t r)) new) (filter (begins (key_in t r)) new)) + length (filter (begins (key_in t r)) rows) ≤ 1 → list_any (begins (key_in t r)) rows ≡ false
    first true is h = none_there (begins (key_in t r)) rows (omega (arith, h))
    first false is h = cc

    moved : (b : Bool) (xs ys : List Cells) → length (cond b (r ∷ xs) xs) + length ys ≤ 1 → length xs + length (cond b (r ∷ ys) ys) ≤ 1
    moved true xs ys h = omega (arith, h)
    moved false xs ys h = h

pub apart_free : (t : Table) (xs ys : List Cells) → IsPermutation xs ys → AreApart t ys → AreFree t xs []
apart_free t xs ys same apart =
    free_from t xs [] (all_weaker (λ row. length (filter (begins (key_in t row)) xs) ≤ 1) (λ row. length (filter (begins (key_in t row)) xs) + 0 ≤ 1) (λ row h. omega (arith, h)) xs (apart_in t xs ys same apart))
