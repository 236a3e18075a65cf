-- A fit office stays fit. A put adds an entry to one roll: what was known is known still, and quotas stay high enough. An
-- opening, a list and a reopening change only the rounds and leave out placements, which has one form for all of them.
use Rattle.office.proofs.changes.Common.{◌&&◌, nat_le, count_by, option_map_or, AllByRecursion, bytes_eq, bytes_eq-Decides, MAX_SUPERVISORS, MAX_PROJECTS, MAX_STUDENTS, MAX_IMPORTS, MAX_ROUNDS, Listed, Key, put, same_key, rises, State, supervisor_key, project_key, student_key, list_key, placement_key, import_key, project_of, has_supervisor, has_project, has_student, has_import, list_of, lists_of, choices_in, is_offered_by, placed_with_supervisor, placed_in_project, quota_with, AreEntries, IsFit, SupervisorFits, ProjectFits, StudentFits, ListFits, PlacementFits, ImportFits, are_aimed, are_numbered, only_last_open, is_moved, with_import, rises-put, find-put, length-put, all-put, same_code, holds_of_found, ◌≡◌, ℕ, ◌-◌, ◌≤◌, Bool, true, false, not, cond, List, [], length, Option, Some, None, is_some, slice_get, refl, sym, ap, subst, ◌∙◌, arith, SupervisorEntry as Supervisor, ProjectEntry as Project, StudentEntry as Student, RoundEntry as Round, AimEntry as RoundAim, PlacementEntry as Placement, ImportEntry as Import}
use Rattle.std.specs.Prelude.{find}
use Rattle.office_model.proofs.EntryChange.{all_weaker}
use Rattle.office.proofs.changes.Entries.{room, found_still, number_still, all_at, count_same}

-- ---- entries of one kind

-- an entry is put where there is room for it
entries_put : {E : Type 0} (key : E → Key) (Fits : E → Type 0) (most : ℕ) (e : E) (es : List E) → AreEntries key Fits most es → Fits e → (not (is_some (find (λ x. same_key (key e) (key x)) es)) && nat_le most (length es)) ≡ false
    → AreEntries key Fits most (put key e es)
entries_put key Fits most e es are fits free = record {
  rise = rises-put key e es are.rise;
  few = room most (is_some (find (λ x. same_key (key e) (key x)) es)) (length es) _ free are.few (length-put key e es are.rise);
  each = all-put key Fits e es fits are.each;
}

-- less is asked of each
entries_weaker : {E : Type 0} (key : E → Key) (P Q : E → Type 0) (most : ℕ) (es : List E) → ((e : E) → P e → Q e) → AreEntries key P most es → AreEntries key Q most es
entries_weaker key P Q most es weaker are = record { rise = are.rise; few = are.few; each = all_weaker P Q weaker es are.each }

-- ---- a supervisor is put

-- the office with a supervisor put
abbrev pub with_supervisor : State → Supervisor → State
with_supervisor o s = record o { supervisors = put supervisor_key s o.supervisors }

project_fits_still : (o : State) (s : Supervisor) (p : Project) → ProjectFits o p → ProjectFits (with_supervisor o s) p
project_fits_still o s p h = record {
  code = h.code;
  label = h.label;
  supervisor = found_still supervisor_key (0, p.supervisor) s o.supervisors h.supervisor;
  quota = h.quota;
}

pub fit_with_supervisor : (o : State) (s : Supervisor) → IsFit o → SupervisorFits s → placed_with_supervisor o s.code ≤ s.quota → (not (has_supervisor o s.code) && nat_le MAX_SUPERVISORS (length o.supervisors)) ≡ false → IsFit (with_supervisor o s)
fit_with_supervisor o s fit fits enough free = record {
  supervisors = entries_put supervisor_key SupervisorFits MAX_SUPERVISORS s o.supervisors fit.supervisors fits free;
  projects = entries_weaker project_key (ProjectFits o) (ProjectFits (with_supervisor o s)) MAX_PROJECTS o.projects (project_fits_still o s) fit.projects;
  students = fit.students;
  numbered = fit.numbered;
  few_rounds = fit.few_rounds;
  aimed = fit.aimed;
  last_open = fit.last_open;
  lists_rise = fit.lists_rise;
  lists_fit = fit.lists_fit;
  placements_rise = fit.placements_rise;
  placements_fit = fit.placements_fit;
  imports = fit.imports;
  projects_within = fit.projects_within;
  supervisors_within = λ c. number_still supervisor_key (λ (e : Supervisor). e.quota) (placed_with_supervisor o c) (0, c) s o.supervisors
      (λ same. subst (λ d. placed_with_supervisor o d ≤ s.quota) (ap (λ (k : Key). k.1) (sym same)) enough) (fit.supervisors_within c);
}

-- ---- a project is put

-- the office with a project put
abbrev pub with_project : State → Project → State
with_project o p = record o { projects = put project_key p o.projects }

-- what holds where nothing is listed, and of each fit list's choices, holds of what a student lists
pub choices_hold : (o : State) → IsFit o → (n : ℕ) (student : List ℕ) (P : List (List ℕ) → Type 0) → P [] → ((l : Listed) → ListFits o n l → P l.choices) → P (choices_in o n student)
choices_hold o fit n student P none each = hold (list_of o n student) refl
  where
    hold : (x : Option Listed) → list_of o n student ≡ x → P (option_map_or (λ l. l.choices) x [])
    hold None is = none
    hold (Some l) is = each l (holds_of_found list_key (ListFits o n) (0, student) (lists_of o n) l (fit.lists_fit n) is)

-- what is listed is known
pub listed_known : (o : State) → IsFit o → (n : ℕ) (student project : List ℕ) (k : ℕ) → slice_get (choices_in o n student) k ≡ Some project → has_project o project ≡ true
listed_known o fit n student project k h =
    all_at (λ p. has_project o p ≡ true) (choices_in o n student) k project (choices_hold o fit n student (AllByRecursion (λ p. has_project o p ≡ true)) tt (λ l fits. fits.projects)) h

same_when_put : (s : List ℕ) (p : Project) (x : Option Project) → option_map_or (λ (e : Project). not (bytes_eq p.supervisor e.supervisor)) x false ≡ false → is_some x ≡ true
    → bytes_eq s p.supervisor ≡ option_map_or (λ (e : Project). bytes_eq s e.supervisor) x false
same_when_put s p None moved known = cc
same_when_put s p (Some e) moved known = ap (bytes_eq s) ((bytes_eq-Decides p.supervisor e.supervisor).0 (stays (bytes_eq p.supervisor e.supervisor) moved))
  where
    stays : (b : Bool) → not b ≡ false → b ≡ true
    stays true h = refl
    stays false h = cc

-- a known project keeps its supervisor
offered_still : (o : State) (p : Project) → is_moved o p.code p.supervisor ≡ false → (s c : List ℕ) → has_project o c ≡ true → is_offered_by (with_project o p) s c ≡ is_offered_by o s c
offered_still o p moved s c known =
    ap (λ (x : Option Project). option_map_or (λ (e : Project). bytes_eq s e.supervisor) x false) (find-put project_key (0, c) p o.projects)
    ∙ by (same_key (0, c) (0, p.code)) refl
  where
    by : (b : Bool) → same_key (0, c) (0, p.code) ≡ b → option_map_or (λ (e : Project). bytes_eq s e.supervisor) (cond b (Some p) (project_of o c)) false ≡ is_offered_by o s c
    by false is = refl
    by true is =
        let same : c ≡ p.code = (bytes_eq-Decides c p.code).0 (sym (same_code c p.code) ∙ is) in
        same_when_put s p (project_of o c) (ap (λ d. is_moved o d p.supervisor) same ∙ moved) known

list_fits_still : (o : State) (p : Project) (n : ℕ) (l : Listed) → ListFits o n l → ListFits (with_project o p) n l
list_fits_still o p n l h = record {
  student = h.student;
  choices = h.choices;
  projects = all_weaker (λ c. has_project o c ≡ true) (λ c. has_project (with_project o p) c ≡ true) (λ c. found_still project_key (0, c) p o.projects) l.choices h.projects;
  not_placed = h.not_placed;
}

pub fit_with_project : (o : State) (p : Project) → IsFit o → ProjectFits o p → is_moved o p.code p.supervisor ≡ false → placed_in_project o p.code ≤ p.quota → (not (has_project o p.code) && nat_le MAX_PROJECTS (length o.projects)) ≡ false → IsFit (with_project o p)
fit_with_project o p fit fits moved enough free = record {
  supervisors = fit.supervisors;
  projects = entries_put project_key (ProjectFits o) MAX_PROJECTS p o.projects fit.projects fits free;
  students = fit.students;
  numbered = fit.numbered;
  few_rounds = fit.few_rounds;
  aimed = fit.aimed;
  last_open = fit.last_open;
  lists_rise = fit.lists_rise;
  lists_fit = λ n. all_weaker (ListFits o n) (ListFits (with_project o p) n) (list_fits_still o p n) (lists_of o n) (fit.lists_fit n);
  placements_rise = fit.placements_rise;
  placements_fit = fit.placements_fit;
  imports = fit.imports;
  projects_within = λ c. number_still project_key (λ (e : Project). e.quota) (placed_in_project o c) (0, c) p o.projects
      (λ same. subst (λ d. placed_in_project o d ≤ p.quota) (ap (λ (k : Key). k.1) (sym same)) enough) (fit.projects_within c);
  supervisors_within = λ s. subst (λ n. n ≤ quota_with o s) (sym (count_same (λ (q : Placement). is_offered_by (with_project o p) s q.project) (λ q. is_offered_by o s q.project) o.placements
      (all_weaker (PlacementFits o) (λ (q : Placement). is_offered_by (with_project o p) s q.project ≡ is_offered_by o s q.project)
      (λ q h. offered_still o p moved s q.project (listed_known o fit q.round q.student q.project (q.rank - 1) h.listed)) o.placements fit.placements_fit))) (fit.supervisors_within s);
}

-- ---- a student is put

-- the office with a student put
abbrev pub with_student : State → Student → State
with_student o s = record o { students = put student_key s o.students }

known_list_still : (o : State) (s : Student) (n : ℕ) (l : Listed) → ListFits o n l → ListFits (with_student o s) n l
known_list_still o s n l h = record {
  student = found_still student_key (0, l.student) s o.students h.student;
  choices = h.choices;
  projects = h.projects;
  not_placed = h.not_placed;
}

pub fit_with_student : (o : State) (s : Student) → IsFit o → StudentFits s → (not (has_student o s.code) && nat_le MAX_STUDENTS (length o.students)) ≡ false → IsFit (with_student o s)
fit_with_student o s fit fits free = record {
  supervisors = fit.supervisors;
  projects = fit.projects;
  students = entries_put student_key StudentFits MAX_STUDENTS s o.students fit.students fits free;
  numbered = fit.numbered;
  few_rounds = fit.few_rounds;
  aimed = fit.aimed;
  last_open = fit.last_open;
  lists_rise = fit.lists_rise;
  lists_fit = λ n. all_weaker (ListFits o n) (ListFits (with_student o s) n) (known_list_still o s n) (lists_of o n) (fit.lists_fit n);
  placements_rise = fit.placements_rise;
  placements_fit = fit.placements_fit;
  imports = fit.imports;
  projects_within = fit.projects_within;
  supervisors_within = fit.supervisors_within;
}

-- ---- an import is stored

pub fit_with_import : (i : Import) (o : State) → IsFit o → ImportFits i → (not (has_import o i.id) && nat_le MAX_IMPORTS (length o.imports)) ≡ false → IsFit (with_import i o)
fit_with_import i o fit fits free = record {
  supervisors = fit.supervisors;
  projects = fit.projects;
  students = fit.students;
  numbered = fit.numbered;
  few_rounds = fit.few_rounds;
  aimed = fit.aimed;
  last_open = fit.last_open;
  lists_rise = fit.lists_rise;
  lists_fit = fit.lists_fit;
  placements_rise = fit.placements_rise;
  placements_fit = fit.placements_fit;
  imports = entries_put import_key ImportFits MAX_IMPORTS i o.imports fit.imports fits free;
  projects_within = fit.projects_within;
  supervisors_within = fit.supervisors_within;
}

-- ---- the rounds change

-- Other rounds, and no more placements by any count. The new lists and placements are fit.
pub record IsRoundStep (o : State) (rounds : List Round) (aims : List RoundAim) (placements : List Placement) : Type 0 where
  pub numbered : are_numbered 1 rounds ≡ true
  pub few_rounds : length rounds ≤ MAX_ROUNDS
  pub aimed : are_aimed aims rounds ≡ true
  pub last_open : only_last_open rounds ≡ true
  pub lists_rise : (n : ℕ) → rises list_key (lists_of (record o { rounds = rounds; aims = aims; placements = placements }) n) ≡ true
  pub lists_fit : (n : ℕ) → AllByRecursion (ListFits (record o { rounds = rounds; aims = aims; placements = placements }) n) (lists_of (record o { rounds = rounds; aims = aims; placements = placements }) n)
  pub placements_rise : rises placement_key placements ≡ true
  pub placements_fit : AllByRecursion (PlacementFits (record o { rounds = rounds; aims = aims; placements = placements })) placements
  pub counts_fall : (t : Placement → Bool) → count_by t placements ≤ count_by t o.placements

pub fit_with_rounds : (o : State) (rounds : List Round) (aims : List RoundAim) (placements : List Placement) → IsFit o → IsRoundStep o rounds aims placements → IsFit (record o { rounds = rounds; aims = aims; placements = placements })
fit_with_rounds o rounds aims placements fit step = record {
  supervisors = fit.supervisors;
  projects = fit.projects;
  students = fit.students;
  numbered = step.numbered;
  few_rounds = step.few_rounds;
  aimed = step.aimed;
  last_open = step.last_open;
  lists_rise = step.lists_rise;
  lists_fit = step.lists_fit;
  placements_rise = step.placements_rise;
  placements_fit = step.placements_fit;
  imports = fit.imports;
  projects_within = λ c. let less = step.counts_fall (λ p. bytes_eq c p.project) in let within = fit.projects_within c in omega (arith, less, within);
  supervisors_within = λ c. let less = step.counts_fall (λ p. is_offered_by o c p.project) in let within = fit.supervisors_within c in omega (arith, less, within);
}
