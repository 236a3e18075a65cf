-- Each row of a fit office is a row of its table, with UTF-8 texts and small numbers.
use Rattle.std.specs.Option.{option_map_or}
use Rattle.store.proofs.Common.{AllByRecursion, first_so, second_so, eqb-true, ◌==◌, all_map, all-flat_map, all_weaker, Has, IsFit, SupervisorFits, ProjectFits, StudentFits, ListFits, PlacementFits, ImportFits, are_aimed, supervisor_cells, project_cells, student_cells, round_cells, aim_cells, placement_cells, import_cells, list_rows, rows_of_round, choice_rows, rows_in, flag, is_generous, State, supervisor_of, project_of, student_of, round_of, supervisor_key, project_key, student_key, round_key, list_key, has_supervisor, has_project, has_student, list_of, choices_in, Table, Edition, Supervisor, Project, Student, Round, Import, RoundAim, Choice, Placement, Cells, AnEdition, First, Second, Third, renamed, rows_in_edition, IsTyped, IsTypedRow, ◌≡◌, inl, inr, List, [], ◌∷◌, Bool, true, map, Option, Some, None, is_some, ℕ, zero, suc, ◌<◌, ◌≤◌, ◌+◌, ◌-◌, length, slice_get, IsTrue, IsUtf8, refl, sym, ap, subst, ◌∙◌, arith, ImportKind, Supervisors, word_of, false}
use Rattle.sql_tables.proofs.Unmade.{ascii}
use Rattle.std.proofs.lemmas.Str.{IsUtf8-from_ascii}
use Rattle.spa.specs.Text.{is_code}
use Rattle.spa.specs.declared.TheConstants.{RANKS}
use Rattle.spa.proofs.Texts.{code_utf8, label_utf8}
use Rattle.office_model.specs.declared.TheConstants.{MAX_ROUNDS}
use Rattle.office_model.specs.declared.rounds.Listed.{Listed}
use Rattle.office_model.specs.declared.rounds.Placement.{Placement as PlacementEntry}
use Rattle.office_model.specs.declared.rounds.Round.{Round as RoundEntry}
use Rattle.office_model.specs.declared.rounds.RoundAim.{RoundAim as AimEntry}
use Rattle.office_model.specs.Roll.{Key, find}
use Rattle.office_model.proofs.Found.{found_key, holds_of_found}
use Rattle.office_model.proofs.LastRound.{round_within}
use Rattle.office_model.proofs.Shaped.{numbered_rise}
use Rattle.office.proofs.changes.Found.{StandsIn, each_found}

-- what holds of an entry holds of the row that is made of it
all_made : {E : Type 0} (Fits : E → Type 0) (P : Cells → Type 0) (row : E → Cells) → ((e : E) → Fits e → P (row e)) → (es : List E) → AllByRecursion Fits es → AllByRecursion P (map row es)
all_made Fits P row f es all = all_map P row es (all_weaker Fits (λ e. P (row e)) f es all)

-- what is on a roll has an entry
entry : {E : Type 0} (x : Option E) → is_some x ≡ true → (e : E) × (x ≡ Some e)
entry None h = absurd (cc)
entry (Some e) h = (e, refl)

below : {X : Type 0} (xs : List X) (i : ℕ) (x : X) → slice_get xs i ≡ Some x → i < length xs
below [] i x h = absurd (cc)
below (y ∷ ys) zero x h = omega arith
below (y ∷ ys) (suc i) x h = let low = below ys i x h in omega (arith, low)

all_at : {X : Type 0} (P : X → Type 0) (xs : List X) (i : ℕ) (x : X) → AllByRecursion P xs → slice_get xs i ≡ Some x → P x
all_at P [] i x all h = absurd (cc)
all_at P (y ∷ ys) zero x all h = let same : y ≡ x = cc in subst P same all.0
all_at P (y ∷ ys) (suc i) x all h = all_at P ys i x all.1 h

-- the word of a kind is UTF-8
word_utf8 : (kind : ImportKind) → IsUtf8 (word_of kind)
word_utf8 Supervisors = IsUtf8-from_ascii (word_of Supervisors) (ascii (word_of Supervisors) refl)
word_utf8 kind = IsUtf8-from_ascii (word_of kind) (ascii (word_of kind) refl)

flag_small : (b : Bool) → IsTyped (flag b)
flag_small true = omega arith
flag_small false = omega arith

module _ (o : State) (fit : IsFit o) where
  -- codes on the rolls are codes
  supervisor_is_code : (code : List ℕ) → has_supervisor o code ≡ true → is_code code ≡ true
  supervisor_is_code code h =
      let it = entry (supervisor_of o code) h in
      ap (λ (k : Key). is_code k.1) (found_key supervisor_key (0, code) o.supervisors it.0 it.1) ∙ (holds_of_found supervisor_key SupervisorFits (0, code) o.supervisors it.0 fit.supervisors.each it.1).code

  project_is_code : (code : List ℕ) → has_project o code ≡ true → is_code code ≡ true
  project_is_code code h =
      let it = entry (project_of o code) h in
      ap (λ (k : Key). is_code k.1) (found_key project_key (0, code) o.projects it.0 it.1) ∙ (holds_of_found project_key (ProjectFits o) (0, code) o.projects it.0 fit.projects.each it.1).code

  student_is_code : (code : List ℕ) → has_student o code ≡ true → is_code code ≡ true
  student_is_code code h =
      let it = entry (student_of o code) h in
      ap (λ (k : Key). is_code k.1) (found_key student_key (0, code) o.students it.0 it.1) ∙ (holds_of_found student_key StudentFits (0, code) o.students it.0 fit.students.each it.1).code

  -- a round has a small number, and its lists fit
  record IsKnown (r : RoundEntry) : Type 0 where
    number : r.number ≤ MAX_ROUNDS
    lists : AllByRecursion (ListFits o r.number) r.lists

  known : (n : ℕ) (r : RoundEntry) → round_of o n ≡ Some r → IsKnown r
  known n r is =
      let within = round_within o fit.numbered n r is in
      let same : n ≡ r.number = ap (λ (k : Key). k.0) (found_key round_key (n, []) o.rounds r is) in
      record {
        number = omega (arith, within.within, fit.few_rounds, same);
        lists = subst (λ m. AllByRecursion (ListFits o m) r.lists) same (subst (λ x. AllByRecursion (ListFits o n) (option_map_or (λ r. r.lists) x [])) is (fit.lists_fit n));
      }

  rounds_known : AllByRecursion IsKnown o.rounds
  rounds_known = all_weaker (StandsIn round_key o.rounds) IsKnown (λ r is. known r.number r is) o.rounds (each_found round_key o.rounds (numbered_rise 1 o.rounds fit.numbered))

  aims_small : (aims : List AimEntry) (rs : List RoundEntry) → are_aimed aims rs ≡ true → AllByRecursion IsKnown rs → AllByRecursion (λ a. a.round ≤ MAX_ROUNDS) aims
  aims_small [] rs h all = tt
  aims_small (a ∷ aims) (r ∷ rs) h all =
      let same = eqb-true a.round r.number (first_so (a.round == r.number) (are_aimed aims rs) h) in
      (omega (arith, same, all.0.number), aims_small aims rs (second_so (a.round == r.number) (are_aimed aims rs) h) all.1)
  aims_small (a ∷ aims) [] h all = absurd (cc)

  -- the rows of a list
  choices_typed : (round : ℕ) (student : List ℕ) (place : ℕ) (cs : List (List ℕ)) → round ≤ MAX_ROUNDS → is_code student ≡ true → place + length cs ≤ RANKS + 1 → AllByRecursion (λ c. IsTrue (has_project o c)) cs
      → AllByRecursion (IsTypedRow Choice) (choice_rows round student place cs)
  choices_typed round student place [] n s few all = tt
  choices_typed round student place (c ∷ cs) n s few all =
      ((refl, (omega (arith, n), (code_utf8 student s, (omega (arith, few), (code_utf8 c (project_is_code c all.0), tt))))), choices_typed round student (suc place) cs n s (omega (arith, few)) all.1)

  list_typed : (n : ℕ) (l : Listed) → n ≤ MAX_ROUNDS → ListFits o n l → AllByRecursion (IsTypedRow Choice) (list_rows n l)
  list_typed n l small fits = choices_typed n l.student 1 l.choices small (student_is_code l.student fits.student) (let few = fits.choices.few in omega (arith, few)) fits.projects

  round_typed : (r : RoundEntry) → IsKnown r → AllByRecursion (IsTypedRow Choice) (rows_of_round r)
  round_typed r is = all-flat_map (IsTypedRow Choice) (list_rows r.number) r.lists (all_weaker (ListFits o r.number) _ (λ l fits. list_typed r.number l is.number fits) r.lists is.lists)

  -- what a student chooses in a round stands in a list of it
  record IsChosen (n : ℕ) (student : List ℕ) (i : ℕ) (project : List ℕ) : Type 0 where
    number : n ≤ MAX_ROUNDS
    student_code : is_code student ≡ true
    low : i < RANKS
    project_code : is_code project ≡ true

  chosen : (n : ℕ) (student : List ℕ) (i : ℕ) (project : List ℕ) → slice_get (choices_in o n student) i ≡ Some project → IsChosen n student i project
  chosen n student i project h = by_round (round_of o n) refl (list_of o n student) refl h
    where
      by_round : (x : Option RoundEntry) → round_of o n ≡ x → (y : Option Listed) → find list_key (0, student) (option_map_or (λ r. r.lists) x []) ≡ y → slice_get (option_map_or (λ l. l.choices) y []) i ≡ Some project → IsChosen n student i project
      by_round (Some r) is (Some l) found at =
          let it = known n r is in
          let same : n ≡ r.number = ap (λ (k : Key). k.0) (found_key round_key (n, []) o.rounds r is) in
          let fits = holds_of_found list_key (ListFits o r.number) (0, student) r.lists l it.lists found in
          record {
            number = omega (arith, same, it.number);
            student_code = ap (λ (k : Key). is_code k.1) (found_key list_key (0, student) r.lists l found) ∙ student_is_code l.student fits.student;
            low = let low = below l.choices i project at in omega (arith, low, fits.choices.few);
            project_code = project_is_code project (all_at (λ c. IsTrue (has_project o c)) l.choices i project fits.projects at);
          }
      by_round x is None found at = absurd (cc)
      by_round None is y found at = absurd (cc)

  placement_typed : (p : PlacementEntry) → PlacementFits o p → IsTypedRow Placement (placement_cells p)
  placement_typed p fits =
      let it = chosen p.round p.student (p.rank - 1) p.project fits.listed in
      (refl, (code_utf8 p.student it.student_code, (omega (arith, it.number), (code_utf8 p.project it.project_code, (omega (arith, it.low, fits.rank), tt)))))

  -- the rows of the latest edition
  latest_rows : (table : Table) → AllByRecursion (IsTypedRow table) (rows_in o table)
  latest_rows Supervisor = all_made SupervisorFits (IsTypedRow Supervisor) supervisor_cells (λ s fits. (refl, (code_utf8 s.code fits.code, (label_utf8 s.label fits.label, (omega (arith, fits.quota), tt))))) o.supervisors fit.supervisors.each
  latest_rows Project = all_made (ProjectFits o) (IsTypedRow Project) project_cells
      (λ p fits. (refl, (code_utf8 p.code fits.code, (label_utf8 p.label fits.label, (code_utf8 p.supervisor (supervisor_is_code p.supervisor fits.supervisor), (omega (arith, fits.quota), tt)))))) o.projects fit.projects.each
  latest_rows Student = all_made StudentFits (IsTypedRow Student) student_cells (λ s fits. (refl, (code_utf8 s.code fits.code, (label_utf8 s.label fits.label, tt)))) o.students fit.students.each
  latest_rows Round = all_made IsKnown (IsTypedRow Round) round_cells (λ r is. (refl, (omega (arith, is.number), (flag_small r.is_open, tt)))) o.rounds rounds_known
  latest_rows RoundAim = all_made (λ a. a.round ≤ MAX_ROUNDS) (IsTypedRow RoundAim) aim_cells (λ a small. (refl, (omega (arith, small), (flag_small (is_generous a.aim), tt)))) o.aims (aims_small o.aims o.rounds fit.aimed rounds_known)
  latest_rows Choice = all-flat_map (IsTypedRow Choice) rows_of_round o.rounds (all_weaker IsKnown _ round_typed o.rounds rounds_known)
  latest_rows Placement = all_made (PlacementFits o) (IsTypedRow Placement) placement_cells placement_typed o.placements fit.placements_fit
  latest_rows Import = all_made ImportFits (IsTypedRow Import) import_cells (λ i fits. (refl, (code_utf8 i.id fits.id, (word_utf8 i.kind, (tt, (omega (arith, fits.rows), tt)))))) o.imports fit.imports.each
  latest_rows _ = tt

  -- those of tables that take others' places
  renamed_rows : (table : Table) → AllByRecursion (IsTypedRow table) (rows_in o (renamed table))
  renamed_rows Edition = tt
  renamed_rows table = latest_rows (renamed table)

  first_rows : (table : Table) → AllByRecursion (IsTypedRow table) (rows_in_edition First o table)
  first_rows RoundAim = tt
  first_rows table = renamed_rows table

-- the rows of a fit office in an edition
pub fit_rows : (e : AnEdition) (o : State) → IsFit o → (table : Table) → AllByRecursion (IsTypedRow table) (rows_in_edition e o table)
fit_rows First o fit table = first_rows o fit table
fit_rows Second o fit table = renamed_rows o fit table
fit_rows Third o fit table = latest_rows o fit table

-- what is among columns that are made of rows is made of one
pub one_of_all : {X Y : Type 0} (P : X → Type 0) (f : X → Y) (xs : List X) (y : Y) → AllByRecursion P xs → Has (map f xs) y → (x : X) × P x × (f x ≡ y)
one_of_all P f [] y all h = absurd h
one_of_all P f (x ∷ xs) y all (inl same) = (x, all.0, sym same)
one_of_all P f (x ∷ xs) y all (inr h) = one_of_all P f xs y all.1 h
