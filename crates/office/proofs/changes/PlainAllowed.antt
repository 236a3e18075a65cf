-- The changes of a plain request that is not refused are allowed over the rows of a fit office, and few. What the request is judged by
-- bounds what its rows have, and knows whom they name. A list goes before its choices come, and these are different.
use Rattle.office.proofs.changes.Common.{flat_map, ◌&&◌, ◌||◌, list_any, option_map_or, bytes_eq, first_so, second_so, leb-true, eq-eqb, all_weaker, any_from_none, none_from_any, none_counted, Text, Number, Table, Supervisor, Project, Student, Round, Choice, Put, Remove, AllRows, Cells, begins, key_in, after_change, RoundEntry, Listed, PutSupervisor, PutProject, PutStudent, OpenRound, PutList, DropList, ReopenRound, State, supervisor_key, project_key, student_key, round_key, has_supervisor, has_project, has_student, has_list, list_of, last_round, round_of, IsFit, plain_refusal, supervisor_tests, project_tests, student_tests, list_tests, choice_tests, changes_of, choices_added, list_changes, list_part, put_or_added, round_row, choice_rows, is_generous, rows_of_round, rows_in, supervisor_cells, project_cells, student_cells, round_cells, choice_cells, allowed, has_reading, rounds_rise, fit_shaped, ◌≡◌, ℕ, suc, ◌+◌, ◌≤◌, inl, inr, Bool, true, false, eqb, drop, List, [], ◌∷◌, ◌++◌, map, length, Option, Some, None, is_some, refl, sym, ap, ◌∙◌, arith, is_code, is_label, and_left, and_right, not-true, or_from, or_parts, list_any-append, Plain, IsAllowed, IsAllowedChange, IsKnown, IsNotChosen, IsPut, AreAllowed, ChangesAllowed, filter}
use Rattle.office.proofs.changes.Apart.{one_picked}
use Rattle.office.proofs.changes.Changes.{add}
use Rattle.office.proofs.changes.Choices.{rows_are}
use Rattle.office.proofs.changes.Entries.{not_false, not_above}
use Rattle.office.proofs.changes.Keyed.{none_left}
use Rattle.office.proofs.changes.KeyTests.{number_test, code_test}
use Rattle.office.proofs.changes.KnownChoices.{Passed}
use Rattle.office.proofs.changes.Lists.{head}
use Rattle.office.proofs.changes.OnRolls.{known_supervisor, known_project, known_student, known_round, project_code, student_code}
use Rattle.office.proofs.changes.StaysFit.{list_fits}

-- ---- texts

pub short_code : (code : List ℕ) → is_code code ≡ true → length code ≤ 65536
short_code code h = omega (arith, leb-true (length code) 16 (second_so _ _ (first_so _ _ (first_so _ _ h))))

short_label : (label : List ℕ) → is_label label ≡ true → length label ≤ 65536
short_label label h = omega (arith, leb-true (length label) 200 (second_so _ _ (first_so _ _ (second_so _ _ h))))

-- ---- rolls and rounds

-- a row is put where at most one has its key, or it is added
put_or_add : (rows : AllRows) (t : Table) (cells : Cells) → IsAllowed rows (record { table = t; cells = cells }) → IsPut t → length (filter (begins (key_in t cells)) (rows t)) ≤ 1
    → (known : Bool) → AreAllowed (put_or_added known (record { table = t; cells = cells }) ∷ []) rows
put_or_add rows t cells is put one true = ((is, put, one), tt)
put_or_add rows t cells is put one false = (is, tt)

-- the row of the last round is put
pub round_allowed : (o : State) → IsFit o → (now : Bool) → IsAllowedChange (rows_in o) (Put (round_row (last_round o) now))
round_allowed o fit now = (
  record { within = (last_round o, now, refl, omega (arith, fit.few_rounds)); short = (tt, (tt, tt)) },
  tt,
  one_picked round_key round_cells (last_round o, []) (begins (Number (last_round o) ∷ [])) (λ x. number_test (last_round o) x.number) o.rounds (rounds_rise o fit.numbered),
)

-- ---- lists

module _ (s : List ℕ) (choices : List (List ℕ)) (o : State) (fit : IsFit o) (none : plain_refusal o (PutList s choices) ≡ None) where
  -- the open round
  abbrev n : ℕ
  n = last_round o

  -- no row is of the list of a student who has none
  none_listed : has_list o n s ≡ false → list_any (begins (head n s)) (flat_map rows_of_round o.rounds) ≡ false
  none_listed absent =
      not-true _ (sym (none_counted (begins (head n s)) (flat_map rows_of_round o.rounds))
      ∙ ap (λ rows. eqb (length rows) 0) (rows_are n s o (fit_shaped o fit) ∙ no_choices (list_of o n s) absent))
    where
      no_choices : (x : Option Listed) → is_some x ≡ false → choice_rows n s 1 (option_map_or (λ l. l.choices) x []) ≡ []
      no_choices None h = refl
      no_choices (Some l) h = cc

  -- and where none is, no project is chosen
  not_chosen : (rows : AllRows) → list_any (begins (head n s)) (rows Choice) ≡ false → (p : List ℕ) → IsNotChosen rows n s p
  not_chosen rows free p = any_from_none _ (rows Choice)
      (all_weaker (λ row. begins (head n s) row ≡ false) (λ row. (begins (head n s) row && begins (Text p ∷ []) (drop 3 row)) ≡ false) (λ row no. and_left _ _ no)
      (rows Choice) (none_from_any (begins (head n s)) (rows Choice) free))

  there : has_student o s ≡ true
  there = not_false _ (allowed (list_tests o s choices) none).1.0

  -- rows have the round, the student, and each project of the roll
  abbrev Know : AllRows → Type 0
  Know rows = IsKnown rows Round (Number n) × IsKnown rows Student (Text s) × ((p : List ℕ) → has_project o p ≡ true → IsKnown rows Project (Text p))

  -- choices come one place after another, and each is none of those before it, where the list has no others
  choices_allowed : (rows : AllRows) → Know rows → (place : ℕ) (before cs : List (List ℕ)) → 1 ≤ place → place + length cs ≤ 13
      → ((p : List ℕ) → list_any (bytes_eq p) before ≡ false → IsNotChosen rows n s p) → Passed (choice_tests o before cs) → AreAllowed (choices_added n s place cs) rows
  choices_allowed rows know place before [] low high new passed = tt
  choices_allowed rows know place before (c ∷ cs) low high new passed =
      let known : has_project o c ≡ true = not_false _ passed.0 in (
        record {
          within = (n, s, place, c, refl, low, omega (arith, high), know.0, know.1, know.2 c known, new c passed.1.0);
          short = (tt, (short_code s (student_code o fit s there), (tt, (short_code c (project_code o fit c known), tt))));
        },
        choices_allowed (after_change (add Choice (choice_cells n s place c)) rows) know (suc place) (before ++ c ∷ []) cs (omega arith) (omega (arith, high)) (λ p others.
            let parts = or_parts _ _ (sym (list_any-append (bytes_eq p) before (c ∷ [])) ∙ others) in
            or_from _ _ (and_right (begins (head n s) (choice_cells n s place c)) _ (and_left (bytes_eq p c) true (or_parts (bytes_eq p c) false parts.1).0)) (new p parts.0)) passed.1.1,
      )

  added : (rows : AllRows) → Know rows → list_any (begins (head n s)) (rows Choice) ≡ false → AreAllowed (choices_added n s 1 choices) rows
  added rows know free =
      choices_allowed rows know 1 [] choices (omega arith) (omega (arith, (list_fits s choices o none).choices.few)) (λ p h. not_chosen rows free p)
      (allowed (list_tests o s choices) none).1.1.1.1

  know : Know (rows_in o)
  know =
      let r = has_reading (λ (r : RoundEntry). r.is_open) false true (round_of o n) (not_false _ (allowed (list_tests o s choices) none).0) (λ e. cc) in
      (known_round o n (ap is_some r.1), known_student o s there, known_project o)

  by : (has : Bool) → has_list o n s ≡ has → AreAllowed (list_changes n s has choices) (rows_in o)
  by true is = (inl refl, added (after_change (Remove (list_part n s)) (rows_in o)) know (none_left (begins (head n s)) (flat_map rows_of_round o.rounds)))
  by false is = added (rows_in o) know (none_listed is)

  list_allowed : AreAllowed (changes_of (PutList s choices) o) (rows_in o)
  list_allowed = by (has_list o n s) refl

-- ---- each request

pub changes_allowed : ChangesAllowed
changes_allowed (PutSupervisor code label quota) o fit none =
    let passed = allowed (supervisor_tests o code label quota) none in
    put_or_add (rows_in o) Supervisor (supervisor_cells (record { code = code; label = label; quota = quota })) (record {
      within = (code, label, quota, refl, not_above _ _ passed.1.1.0);
      short = (short_code code (not_false _ passed.0), (short_label label (not_false _ passed.1.0), (tt, tt)));
    }) tt (one_picked supervisor_key supervisor_cells (0, code) (begins (Text code ∷ [])) (λ x. code_test code x.code) o.supervisors fit.supervisors.rise) (has_supervisor o code)
changes_allowed (PutProject code label supervisor quota) o fit none =
    let passed = allowed (project_tests o code label supervisor quota) none in
    put_or_add (rows_in o) Project (project_cells (record { code = code; label = label; supervisor = supervisor; quota = quota })) (record {
      within = (code, label, supervisor, quota, refl, not_above _ _ passed.1.1.1.0, known_supervisor o supervisor (not_false _ passed.1.1.1.1.0));
      short = (short_code code (not_false _ passed.0), (short_label label (not_false _ passed.1.1.0), (short_code supervisor (not_false _ passed.1.0), (tt, tt))));
    }) tt (one_picked project_key project_cells (0, code) (begins (Text code ∷ [])) (λ x. code_test code x.code) o.projects fit.projects.rise) (has_project o code)
changes_allowed (PutStudent code label) o fit none =
    let passed = allowed (student_tests o code label) none in
    put_or_add (rows_in o) Student (student_cells (record { code = code; label = label })) (record {
      within = (code, label, refl);
      short = (short_code code (not_false _ passed.0), (short_label label (not_false _ passed.1.0), tt));
    }) tt (one_picked student_key student_cells (0, code) (begins (Text code ∷ [])) (λ x. code_test code x.code) o.students fit.students.rise) (has_student o code)
changes_allowed (OpenRound aim) o fit none = (
  record { within = (last_round o + 1, true, refl, omega (arith, fit.few_rounds)); short = (tt, (tt, tt)) },
  (
    record {
      within = (
        last_round o + 1,
        is_generous aim,
        refl,
        omega (arith, fit.few_rounds),
        ap (λ b. (b && true) || list_any (begins (Number (last_round o + 1) ∷ [])) (map round_cells o.rounds)) (eq-eqb (last_round o + 1) (last_round o + 1) refl),
      );
      short = (tt, (tt, tt));
    },
    tt,
  ),
)
changes_allowed (PutList student choices) o fit none = list_allowed student choices o fit none
changes_allowed (DropList student) o fit none = (inl refl, tt)
changes_allowed ReopenRound o fit none = (round_allowed o fit true, (inr refl, tt))
changes_allowed _ o fit none = tt

-- ---- how many

length_added : (n : ℕ) (s : List ℕ) (place : ℕ) (cs : List (List ℕ)) → length (choices_added n s place cs) ≡ length cs
length_added n s place [] = refl
length_added n s place (c ∷ cs) = ap suc (length_added n s (suc place) cs)

pub few_changes : (q : Plain) (o : State) → plain_refusal o q ≡ None → length (changes_of q o) ≤ 13
few_changes (PutList student choices) o none = by (has_list o (last_round o) student)
  where
    few : length (choices_added (last_round o) student 1 choices) ≤ 12
    few = omega (arith, length_added (last_round o) student 1 choices, (list_fits student choices o none).choices.few)

    by : (has : Bool) → length (list_changes (last_round o) student has choices) ≤ 13
    by true = omega (arith, few)
    by false = omega (arith, few)
few_changes _ o none = omega arith
