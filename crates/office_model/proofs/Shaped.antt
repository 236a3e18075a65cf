-- Of a fit office the keys of all entries rise, and each list has choices.
use Rattle.std.proofs.Common.{Less, Equal}
use Rattle.office_model.proofs.Common.{◌==◌, ◌&&◌, AllByRecursion, is_lt, nat_cmp, ordering_then, first_so, second_so, nat_cmp_is, nat_tests, Round, RoundAim, rises, is_below, State, supervisor_key, project_key, student_key, round_key, aim_key, list_key, placement_key, import_key, lists_of, IsFit, ListFits, are_aimed, are_numbered, ◌≡◌, ℕ, suc, ◌<◌, ◌≤◌, true, List, [], ◌∷◌, length, refl, sym, ap, ◌∙◌, arith}
use Rattle.office_model.proofs.EntryChange.{all_weaker}

-- keys rise, and each list has choices
pub record IsShaped (o : State) : Type 0 where
  pub supervisors_rise : rises supervisor_key o.supervisors ≡ true
  pub projects_rise : rises project_key o.projects ≡ true
  pub students_rise : rises student_key o.students ≡ true
  pub rounds_rise : rises round_key o.rounds ≡ true
  pub lists_rise : (n : ℕ) → rises list_key (lists_of o n) ≡ true
  pub lists_some : (n : ℕ) → AllByRecursion (λ l. 1 ≤ length l.choices) (lists_of o n)
  pub aims_rise : rises aim_key o.aims ≡ true
  pub placements_rise : rises placement_key o.placements ≡ true
  pub imports_rise : rises import_key o.imports ≡ true

-- rounds that are numbered from one on stand above what is below it
below_numbered : (k m : ℕ) (rs : List Round) → k < m → are_numbered m rs ≡ true → is_below round_key (k, []) rs ≡ true
below_numbered k m [] l h = refl
below_numbered k m (r ∷ rs) l h =
    let first : r.number ≡ m = grind (arith, nat_tests, first_so (r.number == m) (are_numbered (suc m) rs) h) in
    let above : Less ≡ nat_cmp k r.number = nat_cmp_is k r.number Less (omega (arith, l, first)) in
    ap (λ c. is_lt (ordering_then c Equal) && is_below round_key (k, []) rs) (sym above) ∙ below_numbered k (suc m) rs (omega (arith, l)) (second_so (r.number == m) (are_numbered (suc m) rs) h)

pub numbered_rise : (m : ℕ) (rs : List Round) → are_numbered m rs ≡ true → rises round_key rs ≡ true
numbered_rise m [] h = refl
numbered_rise m (r ∷ rs) h =
    let first : r.number ≡ m = grind (arith, nat_tests, first_so (r.number == m) (are_numbered (suc m) rs) h) in
    let rest = second_so (r.number == m) (are_numbered (suc m) rs) h in
    ap (λ b. b && rises round_key rs) (below_numbered r.number (suc m) rs (omega (arith, first)) rest) ∙ numbered_rise (suc m) rs rest

-- aims stand in the order of their rounds
below_aimed : (k : ℕ) (aims : List RoundAim) (rs : List Round) → are_aimed aims rs ≡ true → is_below aim_key (k, []) aims ≡ is_below round_key (k, []) rs
below_aimed k [] [] h = refl
below_aimed k (a ∷ aims) (r ∷ rs) h =
    let same : a.round ≡ r.number = grind (arith, nat_tests, first_so (a.round == r.number) (are_aimed aims rs) h) in
    λ i. is_lt (ordering_then (nat_cmp k (same i)) Equal) && below_aimed k aims rs (second_so (a.round == r.number) (are_aimed aims rs) h) i
below_aimed k [] (r ∷ rs) h = cc
below_aimed k (a ∷ aims) [] h = cc

aimed_rise : (aims : List RoundAim) (rs : List Round) → are_aimed aims rs ≡ true → rises aim_key aims ≡ rises round_key rs
aimed_rise [] [] h = refl
aimed_rise (a ∷ aims) (r ∷ rs) h =
    let same : a.round ≡ r.number = grind (arith, nat_tests, first_so (a.round == r.number) (are_aimed aims rs) h) in
    let rest = second_so (a.round == r.number) (are_aimed aims rs) h in
    λ i. (ap (λ n. is_below aim_key (n, []) aims) same ∙ below_aimed r.number aims rs rest) i && aimed_rise aims rs rest i
aimed_rise [] (r ∷ rs) h = cc
aimed_rise (a ∷ aims) [] h = cc

pub fit_shaped : (o : State) → IsFit o → IsShaped o
fit_shaped o fit = record {
  supervisors_rise = fit.supervisors.rise;
  projects_rise = fit.projects.rise;
  students_rise = fit.students.rise;
  rounds_rise = numbered_rise 1 o.rounds fit.numbered;
  lists_rise = fit.lists_rise;
  lists_some = λ n. all_weaker (ListFits o n) (λ l. 1 ≤ length l.choices) (λ l fits. fits.choices.some) (lists_of o n) (fit.lists_fit n);
  aims_rise = aimed_rise o.aims o.rounds fit.aimed ∙ numbered_rise 1 o.rounds fit.numbered;
  placements_rise = fit.placements_rise;
  imports_rise = fit.imports.rise;
}
