-- The finite tests of a draft are the fitness of an office. Entries are tested where they stand, and an entry that stands in a
-- table is the one that is found at its key; a placed project is listed, so it is on the roll, and so is its supervisor.
use Rattle.office.proofs.from_rows.Common.{◌&&◌, nat_le, IsTrue, first_so, second_so, list_all, AllByRecursion, option_map_or, bytes_eq, and_from, all_both, all_from_test, all_weaker, test_from_all, MAX_SUPERVISORS, MAX_PROJECTS, MAX_STUDENTS, RANKS, Supervisor, Project, Student, Import, Placement, MAX_ROUNDS, MAX_IMPORTS, SupervisorEntry, ProjectEntry, RoundEntry, Listed, PlacementEntry, Key, State, supervisor_key, project_key, round_key, supervisor_of, project_of, round_of, lists_of, has_supervisor, has_project, has_student, is_placed_before, is_closed, choices_in, quota_in, quota_with, is_offered_by, placed_in_project, placed_with_supervisor, IsFit, ProjectFits, ListFits, PlacementFits, are_aimed, are_numbered, only_last_open, is_distinct, bytes_self, same_bytes, found_key, holds_of_found, numbered_rise, each_found, is_whole, are_few, are_offered, are_rounds, is_list, is_placement, are_within, ◌≡◌, ℕ, ◌+◌, ◌-◌, ◌≤◌, Bool, true, false, not, cond, List, [], ◌∷◌, length, count_by, Option, Some, None, is_some, slice_get, refl, sym, ap, subst, ◌∙◌, arith, listed}
use Rattle.std.proofs.lemmas.List.Sums.{sum_by-cons}
use Rattle.office_model.proofs.NoMoreThanFound.{few_placed}
use Rattle.office.proofs.from_rows.Tests.{at_most, not_true, within}
use Rattle.office.proofs.from_rows.Decoded.{ProjectForm}
use Rattle.office.proofs.from_rows.Taken.{IsDrafted, HasChoices, lists_drafted}
use Rattle.office.proofs.from_rows.FitDrafted.{lists_found}

-- ---- tests of each

all_pass : {E : Type 0} (P : E → Type 0) (test : E → Bool) → ((e : E) → P e → test e ≡ true) → (es : List E) → AllByRecursion P es → list_all test es ≡ true
all_pass P test pass es all = test_from_all test es (all_weaker P (λ e. test e ≡ true) pass es all)

none_counted : {E : Type 0} (test : E → Bool) (es : List E) → AllByRecursion (λ e. test e ≡ false) es → count_by test es ≡ 0
none_counted test [] a = refl
none_counted test (e ∷ es) a = let rest = none_counted test es a.1 in sum_by-cons (λ x. cond (test x) 1 0) e es ∙ ap (λ b. cond b 1 0 + count_by test es) a.0 ∙ omega (arith, rest)

is_not : (b : Bool) → b ≡ false → not b ≡ true
is_not b h = ap not h

-- ---- lists

list_fits : (o : State) (n : ℕ) (l : Listed) → is_list o n l ≡ true → HasChoices l → ListFits o n l
list_fits o n l h some =
    let known = list_all (has_project o) l.choices in
    let b1 = second_so (has_student o l.student) (not (is_placed_before o l.student n) && (nat_le (length l.choices) RANKS && (is_distinct l.choices && known))) h in
    let b2 = second_so (not (is_placed_before o l.student n)) (nat_le (length l.choices) RANKS && (is_distinct l.choices && known)) b1 in
    let b3 = second_so (nat_le (length l.choices) RANKS) (is_distinct l.choices && known) b2 in
    record {
      student = first_so (has_student o l.student) (not (is_placed_before o l.student n) && (nat_le (length l.choices) RANKS && (is_distinct l.choices && known))) h;
      choices = record { some = some; few = at_most _ _ (first_so (nat_le (length l.choices) RANKS) (is_distinct l.choices && known) b2); distinct = first_so (is_distinct l.choices) known b3 };
      projects = all_from_test (has_project o) l.choices (second_so (is_distinct l.choices) known b3);
      not_placed = not_true _ (first_so (not (is_placed_before o l.student n)) (nat_le (length l.choices) RANKS && (is_distinct l.choices && known)) b1);
    }

fits_list : (o : State) (n : ℕ) (l : Listed) → ListFits o n l → is_list o n l ≡ true
fits_list o n l fits =
    and_from (has_student o l.student) _ fits.student (and_from (not (is_placed_before o l.student n)) _ (is_not _ fits.not_placed)
    (and_from (nat_le (length l.choices) RANKS) _ (within _ _ fits.choices.few)
    (and_from (is_distinct l.choices) _ fits.choices.distinct (all_pass (λ p. IsTrue (has_project o p)) (has_project o) (λ p h. h) l.choices fits.projects))))

lists_fit : (o : State) → IsDrafted o → list_all (λ r. list_all (is_list o r.number) r.lists) o.rounds ≡ true → (n : ℕ) → AllByRecursion (ListFits o n) (lists_of o n)
lists_fit o d h n = of_round (round_of o n) refl (lists_drafted o d n).each
  where
    of_round : (x : Option RoundEntry) → round_of o n ≡ x → AllByRecursion HasChoices (option_map_or (λ r. r.lists) x []) → AllByRecursion (ListFits o n) (option_map_or (λ r. r.lists) x [])
    of_round None e some = tt
    of_round (Some r) e some =
        let number : n ≡ r.number = ap (λ (q : Key). q.0) (found_key round_key (n, []) o.rounds r e) in
        let here = holds_of_found round_key (λ r. list_all (is_list o r.number) r.lists ≡ true) (n, []) o.rounds r (all_from_test (λ r. list_all (is_list o r.number) r.lists) o.rounds h) e in
        let each = all_both (λ l. is_list o r.number l ≡ true) HasChoices (ListFits o r.number) (λ l so some. list_fits o r.number l so some) r.lists (all_from_test (is_list o r.number) r.lists here) some in
        subst (λ m. AllByRecursion (ListFits o m) r.lists) (sym number) each

fit_lists : (o : State) → IsFit o → list_all (λ r. list_all (is_list o r.number) r.lists) o.rounds ≡ true
fit_lists o fit =
    all_pass (λ r. round_of o r.number ≡ Some r) (λ r. list_all (is_list o r.number) r.lists) pass o.rounds (each_found round_key o.rounds (numbered_rise 1 o.rounds fit.numbered))
  where
    pass : (r : RoundEntry) → round_of o r.number ≡ Some r → list_all (is_list o r.number) r.lists ≡ true
    pass r e =
        all_pass (ListFits o r.number) (is_list o r.number) (fits_list o r.number) r.lists (subst (AllByRecursion (ListFits o r.number)) (lists_found o r e) (fit.lists_fit r.number))

-- ---- placements

stands : (c : List ℕ) (x : Option (List ℕ)) → option_map_or (bytes_eq c) x false ≡ true → x ≡ Some c
stands c None h = cc
stands c (Some y) h = ap Some (sym (same_bytes c y h))

placement_fits : (o : State) (p : PlacementEntry) → is_placement o p ≡ true → PlacementFits o p
placement_fits o p h =
    let stands_there = option_map_or (bytes_eq p.project) (slice_get (choices_in o p.round p.student) (p.rank - 1)) false in
    let rest = second_so (is_closed o p.round) (nat_le 1 p.rank && stands_there) h in
    record {
      closed = first_so (is_closed o p.round) (nat_le 1 p.rank && stands_there) h;
      rank = at_most 1 p.rank (first_so (nat_le 1 p.rank) stands_there rest);
      listed = stands p.project _ (second_so (nat_le 1 p.rank) stands_there rest);
    }

fits_placement : (o : State) (p : PlacementEntry) → PlacementFits o p → is_placement o p ≡ true
fits_placement o p fits =
    and_from (is_closed o p.round) _ fits.closed (and_from (nat_le 1 p.rank) _ (within 1 p.rank fits.rank)
    (ap (λ x. option_map_or (bytes_eq p.project) x false) fits.listed ∙ bytes_self p.project))

-- ---- quotas

-- a code that is not on a roll is none that is
apart_from : (known : List ℕ → Bool) (a b : List ℕ) → known a ≡ false → known b ≡ true → bytes_eq a b ≡ false
apart_from known a b unknown is =
    elim (bytes_eq a b) as (λ t. bytes_eq a b ≡ t → t ≡ false) [
      | true ↦ λ e. let no : false ≡ true = sym unknown ∙ ap known (same_bytes a b e) ∙ is in cc
      | false ↦ λ e. refl
    ] refl

projects_within : (o : State) → AllByRecursion (λ (p : PlacementEntry). has_project o p.project ≡ true) o.placements → list_all (λ p. nat_le (placed_in_project o p.code) p.quota) o.projects ≡ true
    → (c : List ℕ) → placed_in_project o c ≤ quota_in o c
projects_within o known h c = of_project (project_of o c) refl
  where
    of_project : (x : Option ProjectEntry) → project_of o c ≡ x → placed_in_project o c ≤ option_map_or (λ p. p.quota) x 0
    of_project None e =
        let none = none_counted (λ (p : PlacementEntry). bytes_eq c p.project) o.placements (all_weaker _ (λ (p : PlacementEntry). bytes_eq c p.project ≡ false) (λ p is. apart_from (has_project o) c p.project (ap is_some e) is) o.placements known) in
        omega (arith, none)
    of_project (Some p) e =
        let here = holds_of_found project_key (λ p. nat_le (placed_in_project o p.code) p.quota ≡ true) (0, c) o.projects p (all_from_test (λ p. nat_le (placed_in_project o p.code) p.quota) o.projects h) e in
        subst (λ (q : Key). placed_in_project o q.1 ≤ p.quota) (sym (found_key project_key (0, c) o.projects p e)) (at_most _ _ here)

supervisors_within : (o : State) → AllByRecursion (ProjectFits o) o.projects → list_all (λ s. nat_le (placed_with_supervisor o s.code) s.quota) o.supervisors ≡ true
    → (c : List ℕ) → placed_with_supervisor o c ≤ quota_with o c
supervisors_within o offered h c = of_supervisor (supervisor_of o c) refl
  where
    not_offered : has_supervisor o c ≡ false → (project : List ℕ) (x : Option ProjectEntry) → project_of o project ≡ x → option_map_or (λ p. bytes_eq c p.supervisor) x false ≡ false
    not_offered unknown project None e = refl
    not_offered unknown project (Some p) e =
        let fits : ProjectFits o p = holds_of_found project_key (ProjectFits o) (0, project) o.projects p offered e in
        apart_from (has_supervisor o) c p.supervisor unknown fits.supervisor

    each_not : has_supervisor o c ≡ false → (ps : List PlacementEntry) → AllByRecursion (λ (p : PlacementEntry). is_offered_by o c p.project ≡ false) ps
    each_not unknown [] = tt
    each_not unknown (p ∷ ps) = (not_offered unknown p.project (project_of o p.project) refl, each_not unknown ps)

    of_supervisor : (x : Option SupervisorEntry) → supervisor_of o c ≡ x → placed_with_supervisor o c ≤ option_map_or (λ s. s.quota) x 0
    of_supervisor None e = let none = none_counted (λ (p : PlacementEntry). is_offered_by o c p.project) o.placements (each_not (ap is_some e) o.placements) in omega (arith, none)
    of_supervisor (Some s) e =
        let here = holds_of_found supervisor_key (λ s. nat_le (placed_with_supervisor o s.code) s.quota ≡ true) (0, c) o.supervisors s (all_from_test (λ s. nat_le (placed_with_supervisor o s.code) s.quota) o.supervisors h) e in
        subst (λ (q : Key). placed_with_supervisor o q.1 ≤ s.quota) (sym (found_key supervisor_key (0, c) o.supervisors s e)) (at_most _ _ here)

fit_within : (o : State) → IsFit o → are_within o ≡ true
fit_within o fit =
    and_from (list_all (λ p. nat_le (placed_in_project o p.code) p.quota) o.projects) _
    (all_pass (λ p. project_of o p.code ≡ Some p) (λ p. nat_le (placed_in_project o p.code) p.quota)
    (λ p e. within _ _ (subst (λ x. placed_in_project o p.code ≤ option_map_or (λ (p : ProjectEntry). p.quota) x 0) e (fit.projects_within p.code))) o.projects (each_found project_key o.projects fit.projects.rise))
    (all_pass (λ s. supervisor_of o s.code ≡ Some s) (λ s. nat_le (placed_with_supervisor o s.code) s.quota)
    (λ s e. within _ _ (subst (λ x. placed_with_supervisor o s.code ≤ option_map_or (λ (s : SupervisorEntry). s.quota) x 0) e (fit.supervisors_within s.code))) o.supervisors (each_found supervisor_key o.supervisors fit.supervisors.rise))

-- ---- the whole

-- what is known of a draft that goes together
pub record IsJoined (o : State) : Type 0 where
  pub few : are_few o ≡ true
  pub offered : are_offered o ≡ true
  pub numbered : are_numbered 1 o.rounds ≡ true
  pub aimed : are_aimed o.aims o.rounds ≡ true
  pub last_open : only_last_open o.rounds ≡ true
  pub lists : list_all (λ r. list_all (is_list o r.number) r.lists) o.rounds ≡ true
  pub placements : list_all (is_placement o) o.placements ≡ true
  pub projects : list_all (λ p. nat_le (placed_in_project o p.code) p.quota) o.projects ≡ true
  pub supervisors : list_all (λ s. nat_le (placed_with_supervisor o s.code) s.quota) o.supervisors ≡ true

joined : (o : State) → is_whole o ≡ true → IsJoined o
joined o h =
    let lists = list_all (λ r. list_all (is_list o r.number) r.lists) o.rounds in
    let placements = list_all (is_placement o) o.placements in
    let projects = list_all (λ p. nat_le (placed_in_project o p.code) p.quota) o.projects in
    let supervisors = list_all (λ s. nat_le (placed_with_supervisor o s.code) s.quota) o.supervisors in
    let b1 = second_so (are_few o) (are_offered o && (are_rounds o && (placements && are_within o))) h in
    let b2 = second_so (are_offered o) (are_rounds o && (placements && are_within o)) b1 in
    let rounds = first_so (are_rounds o) (placements && are_within o) b2 in
    let b3 = second_so (are_rounds o) (placements && are_within o) b2 in
    let aims = second_so (are_numbered 1 o.rounds) (are_aimed o.aims o.rounds && (only_last_open o.rounds && lists)) rounds in
    let rest = second_so (are_aimed o.aims o.rounds) (only_last_open o.rounds && lists) aims in
    let quotas = second_so placements (are_within o) b3 in
    record {
      few = first_so (are_few o) (are_offered o && (are_rounds o && (placements && are_within o))) h;
      offered = first_so (are_offered o) (are_rounds o && (placements && are_within o)) b1;
      numbered = first_so (are_numbered 1 o.rounds) (are_aimed o.aims o.rounds && (only_last_open o.rounds && lists)) rounds;
      aimed = first_so (are_aimed o.aims o.rounds) (only_last_open o.rounds && lists) aims;
      last_open = first_so (only_last_open o.rounds) lists rest;
      lists = second_so (only_last_open o.rounds) lists rest;
      placements = first_so placements (are_within o) b3;
      projects = first_so projects supervisors quotas;
      supervisors = second_so projects supervisors quotas;
    }

-- entries that are each of their forms, and go together, are a fit office
pub whole_fit : (o : State) → IsDrafted o → is_whole o ≡ true → IsFit o
whole_fit o d whole =
    let j = joined o whole in
    let supervisors = nat_le (length o.supervisors) MAX_SUPERVISORS in
    let projects = nat_le (length o.projects) MAX_PROJECTS in
    let students = nat_le (length o.students) MAX_STUDENTS in
    let rounds = nat_le (length o.rounds) MAX_ROUNDS in
    let imports = nat_le (length o.placements) MAX_STUDENTS && nat_le (length o.imports) MAX_IMPORTS in
    let few1 = second_so supervisors (projects && (students && (rounds && imports))) j.few in
    let few2 = second_so projects (students && (rounds && imports)) few1 in
    let few3 = second_so students (rounds && imports) few2 in
    let offered = all_both ProjectForm (λ p. has_supervisor o p.supervisor ≡ true) (ProjectFits o) (λ p form known. record { code = form.code; label = form.label; supervisor = known; quota = form.quota })
    o.projects (d Project).each (all_from_test (λ p. has_supervisor o p.supervisor) o.projects j.offered) in
    let lists = lists_fit o d j.lists in
    let placements : AllByRecursion (PlacementFits o) o.placements = all_weaker _ (PlacementFits o) (placement_fits o) o.placements (all_from_test (is_placement o) o.placements j.placements) in
    let known = all_weaker (PlacementFits o) (λ (p : PlacementEntry). has_project o p.project ≡ true) (λ p fits. (listed o lists p.round p.student (p.rank - 1) p.project fits.listed).project) o.placements placements in
    record {
      supervisors = record { rise = (d Supervisor).rise; few = at_most _ _ (first_so supervisors (projects && (students && (rounds && imports))) j.few); each = (d Supervisor).each };
      projects = record { rise = (d Project).rise; few = at_most _ _ (first_so projects (students && (rounds && imports)) few1); each = offered };
      students = record { rise = (d Student).rise; few = at_most _ _ (first_so students (rounds && imports) few2); each = (d Student).each };
      numbered = j.numbered;
      few_rounds = at_most _ _ (first_so rounds imports few3);
      aimed = j.aimed;
      last_open = j.last_open;
      lists_rise = λ n. (lists_drafted o d n).rise;
      lists_fit = lists;
      placements_rise = (d Placement).rise;
      placements_fit = placements;
      imports = record { rise = (d Import).rise; few = at_most _ _ (second_so (nat_le (length o.placements) MAX_STUDENTS) (nat_le (length o.imports) MAX_IMPORTS) (second_so rounds imports few3)); each = (d Import).each };
      projects_within = projects_within o known j.projects;
      supervisors_within = supervisors_within o offered j.supervisors;
    }

-- and a fit office goes together
pub fit_whole : (o : State) → IsFit o → is_whole o ≡ true
fit_whole o fit =
    let few = and_from (nat_le (length o.supervisors) MAX_SUPERVISORS) _ (within _ _ fit.supervisors.few)
    (and_from (nat_le (length o.projects) MAX_PROJECTS) _ (within _ _ fit.projects.few)
    (and_from (nat_le (length o.students) MAX_STUDENTS) _ (within _ _ fit.students.few)
    (and_from (nat_le (length o.rounds) MAX_ROUNDS) _ (within _ _ fit.few_rounds)
    (and_from (nat_le (length o.placements) MAX_STUDENTS) _ (within _ _ (omega (arith, few_placed o fit, fit.students.few))) (within _ _ fit.imports.few))))) in
    and_from (are_few o) _ few
    (and_from (are_offered o) _ (all_pass (ProjectFits o) (λ p. has_supervisor o p.supervisor) (λ p fits. fits.supervisor) o.projects fit.projects.each)
    (and_from (are_rounds o) _ (and_from (are_numbered 1 o.rounds) _ fit.numbered (and_from (are_aimed o.aims o.rounds) _ fit.aimed (and_from (only_last_open o.rounds) _ fit.last_open (fit_lists o fit))))
    (and_from (list_all (is_placement o) o.placements) _ (all_pass (PlacementFits o) (is_placement o) (fits_placement o) o.placements fit.placements_fit) (fit_within o fit))))
