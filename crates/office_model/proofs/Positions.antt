-- Positions of entries whose keys rise: an entry is found by its own key, and no two positions have one key. So what is counted at
-- positions is counted by codes.
use Rattle.office_model.proofs.Common.{option_map_or, first_so, second_so, bytes_eq, cases_eq, false_from_ne_true, nat_tests, slice_get_cases, Project, Key, same_key, find, has, is_below, rises, supervisor_key, project_key, IsAt, AreRolls, ◌≡◌, ℕ, zero, suc, ◌+◌, ◌<◌, count_by, take, get_or, inl, inr, Bool, true, false, cond, List, [], ◌∷◌, length, Option, Some, None, is_some, slice_get, refl, sym, ap, ◌∙◌, arith, ◌==◌}
use Rattle.std.proofs.lemmas.List.Sums.{count_by_more_yes, count_by_more_no}
use Rattle.office_model.specs.declared.entries.Supervisor.{Supervisor}
use Rattle.office_model.specs.Inside.Counted.{ArePositions, IsOffRoll}
use Rattle.office_model.proofs.EntryChange.{same_code}
use Rattle.office_model.proofs.Found.{found_key}
use Rattle.office_model.proofs.Places.{find_below}
use Rattle.office_model.proofs.EntryChange.{same_bytes, bytes_self}

module _ {E : Type 0} (key : E → Key) (code : E → List ℕ) (coded : (e : E) → key e ≡ (0, code e)) where
  one_itself : (e : E) → same_key (0, code e) (key e) ≡ true
  one_itself e = ap (same_key (0, code e)) (coded e) ∙ same_code (code e) (code e) ∙ bytes_self (code e)

  -- an entry is found by its code
  found_at : (es : List E) (k : ℕ) (e : E) → slice_get es k ≡ Some e → has key (0, code e) es ≡ true
  found_at [] k e is = cc
  found_at (x ∷ es) zero e is =
      let same : x ≡ e = cc in
      ap (λ b. is_some (cond b (Some x) (find key (0, code e) es))) (ap (λ y. same_key (0, code e) (key y)) same ∙ one_itself e)
  found_at (x ∷ es) (suc k) e is = by (same_key (0, code e) (key x)) (found_at es k e is)
    where
      by : (b : Bool) → has key (0, code e) es ≡ true → is_some (cond b (Some x) (find key (0, code e) es)) ≡ true
      by true h = refl
      by false h = h

  -- no later entry has the code of the first
  not_later : (x d : E) (es : List E) (k : ℕ) → is_below key (key x) es ≡ true → slice_get es k ≡ Some d → code x ≡ code d → ⊥
  not_later x d es k below is same =
      let none : find key (0, code d) es ≡ None = ap (λ c. find key (0, c) es) (sym same) ∙ ap (λ q. find key q es) (sym (coded x)) ∙ find_below key (key x) es below in
      let some : is_some (find key (0, code d) es) ≡ true = found_at es k d is in
      let e : is_some (find key (0, code d) es) ≡ false = ap is_some none in
      (let clash : true ≡ false = sym some ∙ e in cc)

  one_position : (es : List E) (i j : ℕ) (e d : E) → rises key es ≡ true → slice_get es i ≡ Some e → slice_get es j ≡ Some d → code e ≡ code d → i ≡ j
  one_position [] i j e d rise at_i at_j same = cc
  one_position (x ∷ es) zero zero e d rise at_i at_j same = refl
  one_position (x ∷ es) zero (suc j) e d rise at_i at_j same =
      let here : x ≡ e = cc in
      absurd (not_later x d es j (first_so (is_below key (key x) es) (rises key es) rise) at_j (ap code here ∙ same))
  one_position (x ∷ es) (suc i) zero e d rise at_i at_j same =
      let here : x ≡ d = cc in
      absurd (not_later x e es i (first_so (is_below key (key x) es) (rises key es) rise) at_i (ap code here ∙ sym same))
  one_position (x ∷ es) (suc i) (suc j) e d rise at_i at_j same = ap suc (one_position es i j e d (second_so (is_below key (key x) es) (rises key es) rise) at_i at_j same)

  -- the entry with a code stands at one position alone
  there : (es : List E) (i k : ℕ) (e d : E) (c : List ℕ) → rises key es ≡ true → slice_get es i ≡ Some e → code e ≡ c → slice_get es k ≡ Some d → bytes_eq (code d) c ≡ (i == k)
  there es i k e d c rise at_i is at_k = elim (cases_eq i k) [
    | inl same ↦
        let one : e ≡ d = (let f : slice_get es k ≡ Some e = ap (slice_get es) (sym same) ∙ at_i in let g : ◌≡◌ {A = Option E} (Some e) (Some d) = sym f ∙ at_k in cc) in
        let t : (i == k) ≡ true = grind (arith, nat_tests) in
        ap (λ x. bytes_eq x c) (ap code (sym one) ∙ is) ∙ bytes_self c ∙ sym t
    | inr other ↦
        let t : (i == k) ≡ false = grind (arith, nat_tests) in
        false_from_ne_true (bytes_eq (code d) c) (λ h. other (one_position es i k e d rise at_i at_k (is ∙ sym (same_bytes (code d) c h)))) ∙ sym t
  ]

  -- a code that is not found stands nowhere
  nowhere : (es : List E) (k : ℕ) (d : E) (c : List ℕ) → find key (0, c) es ≡ None → slice_get es k ≡ Some d → bytes_eq (code d) c ≡ false
  nowhere es k d c none at_k = false_from_ne_true (bytes_eq (code d) c) (λ h.
      (let some : has key (0, c) es ≡ true = ap (λ x. has key (0, x) es) (sym (same_bytes (code d) c h)) ∙ found_at es k d at_k in
      let e : has key (0, c) es ≡ false = ap is_some none in
      let clash : true ≡ false = sym some ∙ e in cc))

  -- what is found at a position has the code
  code_at : (es : List E) (i : ℕ) (e : E) (c : List ℕ) → IsAt key es (0, c) i → slice_get es i ≡ Some e → code e ≡ c
  code_at es i e c at is = sym (ap (λ (q : Key). q.1) (found_key key (0, c) es e (at.found ∙ is) ∙ coded e))

-- an entry stands at each position
some_at : {E : Type 0} (es : List E) (i : ℕ) → i < length es → (e : E) × (slice_get es i ≡ Some e)
some_at es i within = elim ((slice_get_cases es i).1) [
  | inl found ↦ (found.0, found.2)
  | inr past ↦ absurd (omega (arith, past.0, within))
]

module _ (supervisors : List Supervisor) (projects : List Project) (rolls : AreRolls supervisors projects) (project : List ℕ) where
  -- the positions of a project and of its supervisor
  pub both_found : (p l : ℕ) (e : Project) → IsAt project_key projects (0, project) p → slice_get projects p ≡ Some e → IsAt supervisor_key supervisors (0, e.supervisor) l
      → ArePositions supervisors projects project p l
  both_found p l e at e_is offerer = let s = some_at supervisors l offerer.in_range in record {
    project_within = omega (arith, at.in_range, rolls.few_projects);
    supervisor_within = omega (arith, offerer.in_range, rolls.few_supervisors);
    project_there = λ k d is. there project_key (λ (x : Project). x.code) (λ x. refl) projects p k e d project rolls.projects_rise e_is (code_at project_key (λ (x : Project). x.code) (λ x. refl) projects p e project at e_is) is;
    supervisor_there = λ k d is.
        ap (λ (x : Option Project). option_map_or (λ y. bytes_eq d.code y.supervisor) x false) (at.found ∙ e_is)
        ∙ there supervisor_key (λ (x : Supervisor). x.code) (λ x. refl) supervisors l k s.0 d e.supervisor rolls.supervisors_rise s.1
        (code_at supervisor_key (λ (x : Supervisor). x.code) (λ x. refl) supervisors l s.0 e.supervisor offerer s.1) is;
  }

  -- a project that is not found
  pub none_found_there : find project_key (0, project) projects ≡ None → IsOffRoll supervisors projects project
  none_found_there none = record {
    no_project = λ k d is. nowhere project_key (λ (x : Project). x.code) (λ x. refl) projects k d project none is;
    no_supervisor = λ s. ap (λ (x : Option Project). option_map_or (λ y. bytes_eq s y.supervisor) x false) none;
  }

-- ---- counts

-- one element further, a count grows by it if it passes the test
pub count_one_more : {E : Type 0} (t : E → Bool) (es : List E) (i : ℕ) (e : E) → i < length es → e ≡ get_or es i e → count_by t (take (i + 1) es) ≡ count_by t (take i es) + cond (t e) 1 0
count_one_more t es i e within is = by (t e) refl
  where
    by : (b : Bool) → t e ≡ b → count_by t (take (i + 1) es) ≡ count_by t (take i es) + cond b 1 0
    by true h = count_by_more_yes t es i e within (ap t (sym is) ∙ h)
    by false h = count_by_more_no t es i e within (ap t (sym is) ∙ h) ∙ omega arith
