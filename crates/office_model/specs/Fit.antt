-- When the parts of an office go together.
use Rattle.std.specs.Prelude.{◌≡◌, ◌-◌, ◌≤◌, ◌==◌, ◌&&◌, ◌∷◌, ℕ, suc, Bool, true, false, not, IsTrue, List, [], length, slice_get, Some}
use Rattle.office_model.specs.Common.{list_any, AllByRecursion, bytes_eq, RANKS, MAX_SUPERVISORS, MAX_PROJECTS, MAX_STUDENTS, MAX_QUOTA, is_code, is_label, MAX_ROUNDS, MAX_IMPORTS, MAX_IMPORT_BYTES, SupervisorEntry as Supervisor, ProjectEntry as Project, StudentEntry as Student, RoundEntry as Round, Listed, PlacementEntry as Placement, AimEntry as RoundAim, ImportEntry as Import, Key, rises, State, supervisor_key, project_key, student_key, list_key, placement_key, import_key, has_supervisor, has_project, has_student, is_placed_before, is_closed, lists_of, choices_in, quota_in, quota_with, placed_in_project, placed_with_supervisor}

-- a supervisor with a code, a label and a quota within the limit
abbrev pub SupervisorFits : Supervisor → Type 0
SupervisorFits s = record {
  code : IsTrue (is_code s.code);
  label : IsTrue (is_label s.label);
  quota : s.quota ≤ MAX_QUOTA;
}

-- a project with a code, a label and a quota within the limit, of a supervisor who is on the roll
abbrev pub ProjectFits : State → Project → Type 0
ProjectFits o p = record {
  code : IsTrue (is_code p.code);
  label : IsTrue (is_label p.label);
  supervisor : IsTrue (has_supervisor o p.supervisor);
  quota : p.quota ≤ MAX_QUOTA;
}

-- a student with a code and a label
abbrev pub StudentFits : Student → Type 0
StudentFits s = record {
  code : IsTrue (is_code s.code);
  label : IsTrue (is_label s.label);
}

-- the rounds have the numbers from n on, one after another
abbrev pub are_numbered : ℕ → List Round → Bool
are_numbered n [] = true
are_numbered n (r ∷ rs) = (r.number == n) && are_numbered (suc n) rs

-- these are the aims of the rounds, each of one, in their order
abbrev pub are_aimed : List RoundAim → List Round → Bool
are_aimed [] [] = true
are_aimed (a ∷ aims) (r ∷ rs) = (a.round == r.number) && are_aimed aims rs
are_aimed _ _ = false

-- each round but the last is closed
abbrev pub only_last_open : List Round → Bool
only_last_open (r ∷ s ∷ rs) = not r.is_open && only_last_open (s ∷ rs)
only_last_open _ = true

-- no code stands twice
abbrev pub is_distinct : List (List ℕ) → Bool
is_distinct [] = true
is_distinct (c ∷ cs) = not (list_any (bytes_eq c) cs) && is_distinct cs

-- at least one choice, no more than there are ranks, and none of them twice
abbrev pub AreChoices : List (List ℕ) → Type 0
AreChoices choices = record {
  some : 1 ≤ length choices;
  few : length choices ≤ RANKS;
  distinct : IsTrue (is_distinct choices);
}

-- in round n, a list of projects on the roll, no more than ranks, none twice, of a student on the roll whom no earlier round placed
abbrev pub ListFits : State → ℕ → Listed → Type 0
ListFits o n l = record {
  student : IsTrue (has_student o l.student);
  choices : AreChoices l.choices;
  projects : AllByRecursion (λ p. IsTrue (has_project o p)) l.choices;
  not_placed : is_placed_before o l.student n ≡ false;
}

-- a placement by a closed round, of a project that stands at the rank in the student's list of that round
abbrev pub PlacementFits : State → Placement → Type 0
PlacementFits o p = record {
  closed : IsTrue (is_closed o p.round);
  rank : 1 ≤ p.rank;
  listed : slice_get (choices_in o p.round p.student) (p.rank - 1) ≡ Some p.project;
}

-- an import with a code for its id, and a text and rows within their limits
abbrev pub ImportFits : Import → Type 0
ImportFits i = record {
  id : IsTrue (is_code i.id);
  bytes : length i.bytes ≤ MAX_IMPORT_BYTES;
  rows : i.rows ≤ MAX_IMPORT_BYTES;
}

-- entries of one kind: no key stands twice, there are no more than a given count, and each is as it must be
pub record AreEntries {E : Type 0} (key : E → Key) (Fits : E → Type 0) (most : ℕ) (entries : List E) : Type 0 where
  pub rise : IsTrue (rises key entries)
  pub few : length entries ≤ most
  pub each : AllByRecursion Fits entries

-- An office is as the rules have it: its entries are, its rounds are numbered, each has an aim and only the last is open, and no project
-- and no supervisor has more students over all rounds than the quota.
pub record IsFit (o : State) : Type 0 where
  pub supervisors : AreEntries supervisor_key SupervisorFits MAX_SUPERVISORS o.supervisors
  pub projects : AreEntries project_key (ProjectFits o) MAX_PROJECTS o.projects
  pub students : AreEntries student_key StudentFits MAX_STUDENTS o.students
  pub numbered : IsTrue (are_numbered 1 o.rounds)
  pub few_rounds : length o.rounds ≤ MAX_ROUNDS
  pub aimed : IsTrue (are_aimed o.aims o.rounds)
  pub last_open : IsTrue (only_last_open o.rounds)
  pub lists_rise : (n : ℕ) → IsTrue (rises list_key (lists_of o n))
  pub lists_fit : (n : ℕ) → AllByRecursion (ListFits o n) (lists_of o n)
  pub placements_rise : IsTrue (rises placement_key o.placements)
  pub placements_fit : AllByRecursion (PlacementFits o) o.placements
  pub imports : AreEntries import_key ImportFits MAX_IMPORTS o.imports
  pub projects_within : (p : List ℕ) → placed_in_project o p ≤ quota_in o p
  pub supervisors_within : (s : List ℕ) → placed_with_supervisor o s ≤ quota_with o s
