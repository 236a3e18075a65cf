-- A test of all entries, made from the first one on.
use Rattle.office.proofs.from_rows.Common.{◌&&◌, nat_le, list_all, nat_tests, slice_get_read, State, supervisor_key, project_key, has_supervisor, placed_in_project, placed_with_supervisor, rises, MAX_SUPERVISORS, MAX_PROJECTS, MAX_STUDENTS, MAX_ROUNDS, MAX_IMPORTS, first_so, second_so, are_few, are_offered, all_from_test, ◌≡◌, ℕ, zero, suc, ◌+◌, ◌<◌, ◌≤◌, Bool, true, false, List, [], ◌∷◌, length, drop, get_or, Some, slice_get, refl, sym, ap, subst, ◌∙◌, arith, SupervisorEntry as Supervisor, ProjectEntry as Project}
use Rattle.std.proofs.Common.{◌⊎◌, inl, inr}
use Rattle.std.proofs.lemmas.Bool.{cases_lt}
use Rattle.std.proofs.lemmas.List.{drop_more}
use Rattle.office_model.specs.Counted.{AreRolls}
use Rattle.office.proofs.from_rows.Tests.{at_most}

-- a project has no more students than its quota
abbrev pub project_within : State → Project → Bool
project_within o p = nat_le (placed_in_project o p.code) p.quota

-- a supervisor has no more students than the quota
abbrev pub supervisor_within : State → Supervisor → Bool
supervisor_within o s = nat_le (placed_with_supervisor o s.code) s.quota

-- what is counted at an entry's place is no more than its quota where the entry keeps it
not_above : (quota counted placed : ℕ) → counted ≡ placed → counted ≤ quota → nat_le placed quota ≡ true
not_above quota counted placed same h = grind (arith, nat_tests)

above : (quota counted placed : ℕ) → counted ≡ placed → quota < counted → nat_le placed quota ≡ false
above quota counted placed same h = grind (arith, nat_tests)

-- the entry at a position, whatever a look-up past the end would give
entry_at : {E : Type 0} (all : List E) (at : ℕ) → at < length all → (e : E) × ((d : E) → get_or all at d ≡ e)
entry_at [] at h = absurd (omega arith)
entry_at (x ∷ xs) zero h = (x, λ d. refl)
entry_at (x ∷ xs) (suc n) h = entry_at xs n (omega arith)

-- What is known at a position where quotas are tested: it is past the last entry; or the entry there keeps its quota, and leaves the test
-- to those after it; or it does not, and decides it.
abbrev pub IsKnownAt : {E : Type 0} (quota placed : E → ℕ) (all : List E) (counts : ℕ → ℕ) (at : ℕ) → Type 0
IsKnownAt {E} quota placed all counts at =
    (length all ≤ at) ⊎ ((e : E) × ((d : E) → get_or all at d ≡ e)
    × (((counts at ≤ quota e) × (list_all (λ x. nat_le (placed x) (quota x)) (drop at all) ≡ list_all (λ x. nat_le (placed x) (quota x)) (drop (at + 1) all)))
    ⊎ ((quota e < counts at) × (list_all (λ x. nat_le (placed x) (quota x)) (drop at all) ≡ false))))

module _ {E : Type 0} (quota placed : E → ℕ) (own all : List E) (same : all ≡ own) (counts : ℕ → ℕ) (count : (k : ℕ) (x : E) → slice_get own k ≡ Some x → counts k ≡ placed x) where
  abbrev keeps : E → Bool
  keeps x = nat_le (placed x) (quota x)

  -- that is known at each
  pub known_at : (at : ℕ) → IsKnownAt quota placed all counts at
  known_at at = elim (cases_lt at (length all)) [
    | inl low ↦
        let entry = entry_at all at low in
        let e = entry.0 in
        let counted : counts at ≡ placed e = count at e (ap (λ es. slice_get es at) (sym same) ∙ slice_get_read all (length all) at e refl low (sym (entry.1 e))) in
        let first : list_all keeps (drop at all) ≡ (keeps e && list_all keeps (drop (at + 1) all)) =
        ap (list_all keeps) (drop_more all at e low ∙ ap (λ x. x ∷ drop (at + 1) all) (entry.1 e)) in
        inr (
          e,
          entry.1,
          elim (cases_lt (quota e) (counts at)) [
            | inl over ↦ inr (over, first ∙ ap (λ b. b && list_all keeps (drop (at + 1) all)) (above (quota e) (counts at) (placed e) counted over))
            | inr fits ↦ inl (fits, first ∙ ap (λ b. b && list_all keeps (drop (at + 1) all)) (not_above (quota e) (counts at) (placed e) counted fits))
          ],
        )
    | inr past ↦ inl past
  ]

-- an entry that keeps its quota leaves the test to those after it
pub goes_on : {E : Type 0} (quota placed : E → ℕ) (all : List E) (counts : ℕ → ℕ) (at : ℕ) (e : E) → at < length all → counts at ≤ quota (get_or all at e)
    → IsKnownAt quota placed all counts at → list_all (λ x. nat_le (placed x) (quota x)) (drop at all) ≡ list_all (λ x. nat_le (placed x) (quota x)) (drop (at + 1) all)
goes_on quota placed all counts at e low fits (inl past) = absurd (omega (arith, past, low))
goes_on quota placed all counts at e low fits (inr (x, is, inl keeps)) = keeps.1
goes_on quota placed all counts at e low fits (inr (x, is, inr over)) = absurd (omega (arith, over.0, ap quota (is e), fits))

-- rolls that are not too long, and whose projects are all offered, are such that placements are counted by them
pub counted_rolls : (o : State) (ss : List Supervisor) (ps : List Project) → ss ≡ o.supervisors → ps ≡ o.projects → rises supervisor_key o.supervisors ≡ true → rises project_key o.projects ≡ true
    → are_few o ≡ true → are_offered o ≡ true → AreRolls ss ps
counted_rolls o ss ps s p supervisors_rise projects_rise few offered =
    let rest = nat_le (length o.projects) MAX_PROJECTS && (nat_le (length o.students) MAX_STUDENTS && (nat_le (length o.rounds) MAX_ROUNDS && (nat_le (length o.placements) MAX_STUDENTS && nat_le (length o.imports) MAX_IMPORTS))) in
    let more = nat_le (length o.students) MAX_STUDENTS && (nat_le (length o.rounds) MAX_ROUNDS && (nat_le (length o.placements) MAX_STUDENTS && nat_le (length o.imports) MAX_IMPORTS)) in
    subst (λ (x : List Project). AreRolls ss x) (sym p) (subst (λ (x : List Supervisor). AreRolls x o.projects) (sym s) (record {
      supervisors_rise = supervisors_rise;
      projects_rise = projects_rise;
      few_supervisors = at_most _ _ (first_so (nat_le (length o.supervisors) MAX_SUPERVISORS) rest few);
      few_projects = at_most _ _ (first_so (nat_le (length o.projects) MAX_PROJECTS) more (second_so (nat_le (length o.supervisors) MAX_SUPERVISORS) rest few));
      offered = all_from_test (λ p. has_supervisor o p.supervisor) o.projects offered;
    }))
