-- Who is on a roll of a fit office has a code, and what its lists name is on its rolls. The rows of a roll know who is on it.
use Rattle.office.proofs.changes.Common.{AllByRecursion, option_map_or, RANKS, Number, Text, Supervisor, Project, Student, Round, ProjectEntry, StudentEntry, RoundEntry, Listed, Key, find, State, supervisor_key, project_key, student_key, round_key, list_key, has_supervisor, has_project, has_student, round_of, lists_of, list_of, choices_in, IsFit, ProjectFits, StudentFits, ListFits, supervisor_cells, project_cells, student_cells, round_cells, rows_in, found_key, holds_of_found, ◌≡◌, ℕ, ◌<◌, true, List, [], Option, Some, None, is_some, slice_get, refl, ap, ◌∙◌, arith, is_code, IsKnown}
use Rattle.std.proofs.lemmas.Option.{slice_get_within}
use Rattle.office.proofs.changes.Entries.{all_at}
use Rattle.office.proofs.changes.KeyTests.{number_test, code_test}
use Rattle.office.proofs.changes.OneRow.{any_found}

-- ---- codes

-- who is on a roll has a code
pub known_code : {E : Type 0} (key : E → Key) (code_of : E → List ℕ) (Form : E → Type 0) → ((e : E) → key e ≡ (0, code_of e)) → ((e : E) → Form e → is_code (code_of e) ≡ true)
    → (code : List ℕ) (es : List E) → AllByRecursion Form es → is_some (find key (0, code) es) ≡ true → is_code code ≡ true
known_code key code_of Form is coded code es all h = of_found (find key (0, code) es) refl h
  where
    of_found : (x : Option _) → find key (0, code) es ≡ x → is_some x ≡ true → is_code code ≡ true
    of_found None e h = cc
    of_found (Some s) e h = ap (λ (q : Key). is_code q.1) (found_key key (0, code) es s e ∙ is s) ∙ coded s (holds_of_found key Form (0, code) es s all e)

pub student_code : (w : State) → IsFit w → (s : List ℕ) → has_student w s ≡ true → is_code s ≡ true
student_code w fit s h = known_code student_key (λ (e : StudentEntry). e.code) StudentFits (λ e. refl) (λ e f. f.code) s w.students fit.students.each h

pub project_code : (w : State) → IsFit w → (p : List ℕ) → has_project w p ≡ true → is_code p ≡ true
project_code w fit p h = known_code project_key (λ (e : ProjectEntry). e.code) (ProjectFits w) (λ e. refl) (λ e f. f.code) p w.projects fit.projects.each h

-- ---- what a fit office lists

-- a choice of a list
pub record IsListed (w : State) (n : ℕ) (s : List ℕ) (i : ℕ) (c : List ℕ) : Type 0 where
  pub round : is_some (round_of w n) ≡ true
  pub student : has_student w s ≡ true
  pub project : has_project w c ≡ true
  pub few : i < RANKS

pub listed : (w : State) → ((n : ℕ) → AllByRecursion (ListFits w n) (lists_of w n)) → (n : ℕ) (s : List ℕ) (i : ℕ) (c : List ℕ) → slice_get (choices_in w n s) i ≡ Some c → IsListed w n s i c
listed w fits n s i c is = of_list (list_of w n s) refl is
  where
    some_round : (x : Option RoundEntry) → (l : Listed) → find list_key (0, s) (option_map_or (λ r. r.lists) x []) ≡ Some l → is_some x ≡ true
    some_round None l h = cc
    some_round (Some r) l h = refl

    of_list : (x : Option Listed) → list_of w n s ≡ x → slice_get (option_map_or (λ l. l.choices) x []) i ≡ Some c → IsListed w n s i c
    of_list None e h = cc
    of_list (Some l) e h =
        let fit : ListFits w n l = holds_of_found list_key (ListFits w n) (0, s) (lists_of w n) l (fits n) e in
        record {
          round = some_round (round_of w n) l e;
          student = ap (λ (q : Key). has_student w q.1) (found_key list_key (0, s) (lists_of w n) l e) ∙ fit.student;
          project = all_at (λ p. has_project w p ≡ true) l.choices i c fit.projects h;
          few = omega (arith, fit.choices.few, slice_get_within l.choices i c h);
        }

-- ---- rows of the rolls, and of the rounds

pub known_supervisor : (o : State) (code : List ℕ) → has_supervisor o code ≡ true → IsKnown (rows_in o) Supervisor (Text code)
known_supervisor o code has = any_found supervisor_key supervisor_cells Supervisor (λ e x. code_test e.code x.code) (record { code = code; label = []; quota = 0 }) o.supervisors ∙ has

pub known_project : (o : State) (code : List ℕ) → has_project o code ≡ true → IsKnown (rows_in o) Project (Text code)
known_project o code has = any_found project_key project_cells Project (λ e x. code_test e.code x.code) (record { code = code; label = []; supervisor = []; quota = 0 }) o.projects ∙ has

pub known_student : (o : State) (code : List ℕ) → has_student o code ≡ true → IsKnown (rows_in o) Student (Text code)
known_student o code has = any_found student_key student_cells Student (λ e x. code_test e.code x.code) (record { code = code; label = [] }) o.students ∙ has

pub known_round : (o : State) (n : ℕ) → is_some (round_of o n) ≡ true → IsKnown (rows_in o) Round (Number n)
known_round o n has = any_found round_key round_cells Round (λ e x. number_test e.number x.number) (record { number = n; is_open = true; lists = [] }) o.rounds ∙ has
