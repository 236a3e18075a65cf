-- The instance of a round of a fit office has no fault, whatever is taken, and it is what its rolls give.
use Rattle.office.proofs.closing.Common.{AllByRecursion, slice_get_within, length-map, drop_more, All-from_recursion, IsFirstRepeated, supervisor_codes, project_codes, student_codes, given, supervisors_of, projects_of, students_of, IsWithin, AreDistinct, HasDistinctCodes, IsSoundList, IsListFault, IsFirstListFault, IsFirstInstanceFault, Supervisor, Project, Listed, Placement, State, supervisor_key, project_key, list_key, lists_of, has_project, instance_left, IsFit, SupervisorFits, ProjectFits, ListFits, count_in, count_with, all_weaker, few_lists, ◌≡◌, ℕ, zero, suc, ◌+◌, ◌-◌, ◌<◌, ◌≤◌, true, List, [], ◌∷◌, ◌++◌, length, map, drop, get_or, Contains, Option, refl, sym, ap, ◌∙◌, append_assoc, arith}
use Rattle.spa.specs.declared.TheConstants.{MAX_QUOTA}
use Rattle.spa.specs.declared.fault.Roll.TheVariants.{Supervisors, Projects, Students}
use Rattle.spa.specs.declared.fault.InstanceFault.{InstanceFault}
use Rattle.spa.specs.declared.fault.InstanceFault.TheVariants.{Memory, Limit, RepeatedCode, UnknownSupervisor, ListLength, UnknownProject, RepeatedProject}
use Rattle.spa.specs.Instance as spa
use Rattle.office.specs.closing.Inside.Handed as handed
use Rattle.office.specs.closing.Handed.{AreParts}
use Rattle.office.proofs.closing.Entries.{all_made}
use Rattle.office.proofs.changes.Determine.{rises_made}
use Rattle.office.proofs.closing.UniqueCodes.{code_key, apart_since_rise, apart_since_distinct, contains_found, all_at}

-- ---- the instance

module _ (with_supervisor in_project : List ℕ → ℕ) (o : State) (n : ℕ) (fit : IsFit o) where
  abbrev instance : spa.Instance
  instance = instance_left with_supervisor in_project o n

  -- the codes of the rolls
  abbrev supervisor_left : Supervisor → spa.Supervisor
  supervisor_left s = record { code = s.code; quota = s.quota - with_supervisor s.code }

  abbrev project_left : Project → spa.Project
  project_left p = record { code = p.code; supervisor = p.supervisor; quota = p.quota - in_project p.code }

  abbrev student_listed : Listed → spa.Student
  student_listed l = record { code = l.student; list = l.choices }

  instance_within : IsWithin instance
  instance_within = record {
    supervisors = rw (length-map o.supervisors supervisor_left) fit.supervisors.few;
    projects = rw (length-map o.projects project_left) fit.projects.few;
    students = omega (arith, length-map (lists_of o n) student_listed, few_lists o fit n, fit.students.few);
    supervisor_quotas = All-from_recursion (λ q. q ≤ MAX_QUOTA) (map (λ e. e.quota) instance.supervisors)
        (all_made (λ (e : spa.Supervisor). e.quota) (λ q. q ≤ MAX_QUOTA) instance.supervisors (all_made supervisor_left (λ e. e.quota ≤ MAX_QUOTA) o.supervisors
        (all_weaker SupervisorFits (λ s. s.quota - with_supervisor s.code ≤ MAX_QUOTA) (λ s f. omega (arith, f.quota)) o.supervisors fit.supervisors.each)));
    project_quotas = All-from_recursion (λ q. q ≤ MAX_QUOTA) (map (λ e. e.quota) instance.projects)
        (all_made (λ (e : spa.Project). e.quota) (λ q. q ≤ MAX_QUOTA) instance.projects (all_made project_left (λ e. e.quota ≤ MAX_QUOTA) o.projects
        (all_weaker (ProjectFits o) (λ p. p.quota - in_project p.code ≤ MAX_QUOTA) (λ p f. omega (arith, f.quota)) o.projects fit.projects.each)));
  }

  codes_apart : HasDistinctCodes instance
  codes_apart = record {
    supervisors = apart_since_rise (supervisor_codes instance) (rises_made (λ (e : spa.Supervisor). (0, e.code)) code_key (λ e. e.code) (λ e f. refl) instance.supervisors ∙ rises_made supervisor_key (λ e. (0, e.code)) supervisor_left (λ e f. refl) o.supervisors ∙ fit.supervisors.rise);
    projects = apart_since_rise (project_codes instance) (rises_made (λ (e : spa.Project). (0, e.code)) code_key (λ e. e.code) (λ e f. refl) instance.projects ∙ rises_made project_key (λ e. (0, e.code)) project_left (λ e f. refl) o.projects ∙ fit.projects.rise);
    students = apart_since_rise (student_codes instance) (rises_made (λ (e : spa.Student). (0, e.code)) code_key (λ e. e.code) (λ e f. refl) instance.students ∙ rises_made list_key (λ e. (0, e.code)) student_listed (λ e f. refl) (lists_of o n) ∙ fit.lists_rise n);
  }

  supervisors_known : AllByRecursion (Contains (supervisor_codes instance)) (map (λ e. e.supervisor) instance.projects)
  supervisors_known =
      all_made (λ (e : spa.Project). e.supervisor) (Contains (supervisor_codes instance)) instance.projects
      (all_made project_left (λ e. Contains (supervisor_codes instance) e.supervisor) o.projects
      (all_weaker (ProjectFits o) (λ p. Contains (supervisor_codes instance) p.supervisor)
      (λ p f. contains_found supervisor_key supervisor_left (λ e. e.code) (λ e. refl) p.supervisor o.supervisors f.supervisor) o.projects fit.projects.each))

  list_sound : (l : Listed) → ListFits o n l → IsSoundList (project_codes instance) l.choices
  list_sound l f = (
    (f.choices.some, f.choices.few),
    record {
      known = λ p c h is. all_at (Contains (project_codes instance)) l.choices
          (all_weaker (λ c. has_project o c ≡ true) (Contains (project_codes instance)) (λ c h. contains_found project_key project_left (λ e. e.code) (λ e. refl) c o.projects h) l.choices f.projects) p c is;
      apart = apart_since_distinct l.choices f.choices.distinct;
    },
  )

  lists_sound : AllByRecursion (IsSoundList (project_codes instance)) (map (λ e. e.list) instance.students)
  lists_sound =
      all_made (λ (e : spa.Student). e.list) (IsSoundList (project_codes instance)) instance.students
      (all_made student_listed (λ e. IsSoundList (project_codes instance) e.list) (lists_of o n)
      (all_weaker (ListFits o n) (λ l. IsSoundList (project_codes instance) l.choices) list_sound (lists_of o n) (fit.lists_fit n)))

  not_repeated : (codes : List (List ℕ)) (n : ℕ) → AreDistinct codes → IsFirstRepeated codes n → ⊥
  not_repeated codes n apart r = apart r.earlier n r.is_before r.known r.same

  no_list_fault : (list : List (List ℕ)) (s : ℕ) (fault : InstanceFault) → IsSoundList (project_codes instance) list → IsListFault (project_codes instance) list s fault → fault ≡ Memory
  no_list_fault list s Memory sound is = refl
  no_list_fault list s (ListLength n) sound is = absurd (is.1 sound.0)
  no_list_fault list s (UnknownProject n zero) sound is = absurd is
  no_list_fault list s (UnknownProject n (suc k)) sound is = absurd (is.3.unknown (sound.1.known k is.3.code (slice_get_within list k is.3.code is.3.here) is.3.here))
  no_list_fault list s (RepeatedProject n zero) sound is = absurd is
  no_list_fault list s (RepeatedProject n (suc k)) sound is = absurd (not_repeated list k sound.1.apart is.3)
  no_list_fault list s Limit sound is = absurd is
  no_list_fault list s (RepeatedCode roll n) sound is = absurd is
  no_list_fault list s (UnknownSupervisor n) sound is = absurd is

  no_lists_fault : (fault : InstanceFault) → IsFirstListFault (project_codes instance) (map (λ e. e.list) instance.students) fault → fault ≡ Memory
  no_lists_fault fault is = no_list_fault is.list is.student fault (all_at (IsSoundList (project_codes instance)) (map (λ e. e.list) instance.students) lists_sound is.student is.list is.here) is.is_fault

  -- making the instance fails only where memory runs out
  pub instance_accepted : (fault : InstanceFault) → IsFirstInstanceFault instance fault → fault ≡ Memory
  instance_accepted Memory is = refl
  instance_accepted Limit is = absurd (is instance_within)
  instance_accepted (RepeatedCode Supervisors n) is = absurd (not_repeated (supervisor_codes instance) n codes_apart.supervisors is.1)
  instance_accepted (RepeatedCode Projects n) is = absurd (not_repeated (project_codes instance) n codes_apart.projects is.1.1)
  instance_accepted (RepeatedCode Students n) is = absurd (not_repeated (student_codes instance) n codes_apart.students is.1.2)
  instance_accepted (UnknownSupervisor n) is = absurd (is.2.unknown (all_at (Contains (supervisor_codes instance)) (map (λ e. e.supervisor) instance.projects) supervisors_known n is.2.code is.2.here))
  instance_accepted (ListLength n) is = no_lists_fault (ListLength n) is.3
  instance_accepted (UnknownProject n k) is = no_lists_fault (UnknownProject n k) is.3
  instance_accepted (RepeatedProject n k) is = no_lists_fault (RepeatedProject n k) is.3

-- ---- what is handed in

map_map : {A B C : Type 0} (f : A → B) (g : B → C) (xs : List A) → map g (map f xs) ≡ map (λ x. g (f x)) xs
map_map f g [] = refl
map_map f g (x ∷ xs) = ap (λ ys. g (f x) ∷ ys) (map_map f g xs)

-- the rolls that the parts of an office give are the instance's
pub handed_rolls : (up_to : Option ℕ) (o : State) (n : ℕ) (supervisors : List Supervisor) (projects : List Project) (placements : List Placement) (lists : List Listed) → AreParts o n supervisors projects placements lists
    → (ss : List (List ℕ × ℕ)) (ps : List (List ℕ × List ℕ × ℕ)) (ls : List (List ℕ × List (List ℕ)))
    → ss ≡ map (handed.supervisor_left up_to projects placements) supervisors → ps ≡ map (handed.project_left up_to placements) projects → ls ≡ map handed.student_listed lists → given ss ps ls ≡ instance_left (count_with up_to o.projects o.placements) (count_in up_to o.placements) o n
handed_rolls up_to o n supervisors projects placements lists are ss ps ls s p listed =
    let l : spa.Instance = instance_left (count_with up_to o.projects o.placements) (count_in up_to o.placements) o n in
    let a : supervisors_of ss ≡ l.supervisors =
    ap supervisors_of (s ∙ (λ i. map (handed.supervisor_left up_to (are.all_projects i) (are.all_placements i)) (are.all_supervisors i))) ∙ map_map (handed.supervisor_left up_to o.projects o.placements) (λ e. record { code = e.0; quota = e.1 }) o.supervisors in
    let b : projects_of ps ≡ l.projects =
    ap projects_of (p ∙ (λ i. map (handed.project_left up_to (are.all_placements i)) (are.all_projects i))) ∙ map_map (handed.project_left up_to o.placements) (λ e. record { code = e.0; supervisor = e.1; quota = e.2 }) o.projects in
    let c : students_of ls ≡ l.students =
    ap students_of (listed ∙ ap (map handed.student_listed) are.all_lists) ∙ map_map handed.student_listed (λ e. record { code = e.0; list = e.1 }) (lists_of o n) in
    λ i. record { supervisors = a i; projects = b i; students = c i }

-- the entries from a place on
from_here : {E : Type 0} (es : List E) (i : ℕ) (e : E) → i < length es → e ≡ get_or es i e → drop i es ≡ e ∷ drop (i + 1) es
from_here es i e h is = drop_more es i e h ∙ ap (λ d. d ∷ drop (i + 1) es) (sym is)

-- one more entry is handed in
pub handed_step : {E X : Type 0} (f : E → X) (es : List E) (i : ℕ) (e : E) (x : X) (new old all : List X) → i < length es → e ≡ get_or es i e → x ≡ f e → new ≡ old ++ x ∷ [] → old ++ map f (drop i es) ≡ all → new ++ map f (drop (i + 1) es) ≡ all
handed_step {E} {X} f es i e x new old all h is made pushed so_far =
    let rest : List X = map f (drop (i + 1) es) in
    ap (λ (ys : List X). ys ++ rest) pushed ∙ append_assoc old (x ∷ []) rest ∙ ap (λ (y : X). old ++ (y ∷ rest)) made ∙ ap (λ (ds : List E). old ++ map f ds) (sym (from_here es i e h is)) ∙ so_far
