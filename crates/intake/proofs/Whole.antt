-- What is written is the parts of a round.
use Rattle.std.proofs.Common.{◌≡◌, ◌≢◌, ℕ, suc, ◌<◌, ◌≤◌, inl, inr, ℤ, List, [], ◌∷◌, length, map, get_or, slice_get, Option, Some, None, All, Contains, refl, sym, ap, ◌∙◌, subst, arith}
use Rattle.intake.proofs.Common.{contained_code, slice_get_at, IsTrue, AllPairs, AllZip, length-map, get_or_default, All-nil, All-cons, All-head, All-tail, Aim, IsPlaceOf, COMPONENTS, RANKS, MAX_QUOTA, is_code, code_at, AreApart, Supervisor, Project, Student, supervisor_codes, project_codes, student_codes, Named, IsFit, instance_of, supervisors_named, projects_named, students_named, IsWithin, IsListOf, HasPlaces, EachInRange, AllInRange, HasShape, Prices, Rise, IsRoll, IsPlace, ArePricesOrNone, IsInstance, Round, IsRoundParts, alone, proved}
use Rattle.intake.proofs.Order.{get_mapped}
use Rattle.intake.proofs.One.{one_listed}
use Rattle.intake.proofs.RestOfText.{named_supervisors, named_projects, named_students}

-- the quotas of supervisors by codes
supervisor_quotas : (cs : List (List ℕ)) (qs : List ℕ) → All (λ q. q ≤ MAX_QUOTA) qs → All (λ q. q ≤ MAX_QUOTA) (map (λ e. e.quota) (supervisors_named cs qs))
supervisor_quotas [] qs h = All-nil (λ q. q ≤ MAX_QUOTA)
supervisor_quotas (c ∷ cs) [] h = All-nil (λ q. q ≤ MAX_QUOTA)
supervisor_quotas (c ∷ cs) (q ∷ qs) h = All-cons (λ q. q ≤ MAX_QUOTA) q (map (λ (e : Supervisor). e.quota) (supervisors_named cs qs)) (All-head (λ q. q ≤ MAX_QUOTA) q qs h) (supervisor_quotas cs qs (All-tail (λ q. q ≤ MAX_QUOTA) q qs h))

-- and of projects
project_quotas : (ss cs : List (List ℕ)) (ps : List (ℕ × ℕ)) → All (λ p. p.1 ≤ MAX_QUOTA) ps → All (λ q. q ≤ MAX_QUOTA) (map (λ e. e.quota) (projects_named ss cs ps))
project_quotas ss [] ps h = All-nil (λ q. q ≤ MAX_QUOTA)
project_quotas ss (c ∷ cs) [] h = All-nil (λ q. q ≤ MAX_QUOTA)
project_quotas ss (c ∷ cs) (p ∷ ps) h = All-cons (λ q. q ≤ MAX_QUOTA) p.1 (map (λ (e : Project). e.quota) (projects_named ss cs ps)) (All-head (λ (p : ℕ × ℕ). p.1 ≤ MAX_QUOTA) p ps h) (project_quotas ss cs ps (All-tail (λ (p : ℕ × ℕ). p.1 ≤ MAX_QUOTA) p ps h))

-- a project's supervisor is known
offered_named : (ss cs : List (List ℕ)) (ps : List (ℕ × ℕ)) → All (λ p. p.0 < length ss) ps → All (λ e. Contains ss e.supervisor) (projects_named ss cs ps)
offered_named ss [] ps h = All-nil (λ (e : Project). Contains ss e.supervisor)
offered_named ss (c ∷ cs) [] h = All-nil (λ (e : Project). Contains ss e.supervisor)
offered_named ss (c ∷ cs) (p ∷ ps) h =
    let known : p.0 < length ss = All-head (λ (p : ℕ × ℕ). p.0 < length ss) p ps h in
    let e : Project = record { code = c; supervisor = code_at ss p.0; quota = p.1 } in
    All-cons (λ (e : Project). Contains ss e.supervisor) e (projects_named ss cs ps) (contained_code ss p.0 (code_at ss p.0) (slice_get_at ss p.0 [] (code_at ss p.0) known refl)) (offered_named ss cs ps (All-tail (λ (p : ℕ × ℕ). p.0 < length ss) p ps h))

-- the code at a place of a list of positions
code_here : (codes : List (List ℕ)) (ps : List ℕ) (k : ℕ) → k < length ps → slice_get (map (code_at codes) ps) k ≡ Some (code_at codes (get_or ps k 0))
code_here codes ps k h = get_mapped (code_at codes) ps k (get_or ps k 0) (slice_get_at ps k 0 (get_or ps k 0) h refl)

-- values in Some that are the same
same_value : (a b : List ℕ) → Some a ≡ Some b → a ≡ b
same_value a b e = cc

-- a list of positions is sound by codes
sound_named : (codes : List (List ℕ)) (ps : List ℕ) → AreApart codes (length codes) → 0 < length ps → length ps ≤ RANKS → All (λ p. p < length codes) ps → AllPairs (λ p q. p ≢ q) ps → IsListOf Round codes (map (code_at codes) ps)
sound_named codes ps apart some few known distinct =
    let many : length (map (code_at codes) ps) ≡ length ps = length-map ps (code_at codes) in (
      (omega arith, omega arith),
      record {
        known = λ k code h e.
            let within : k < length ps = omega arith in
            let p : ℕ = get_or ps k 0 in
            let at : p < length codes = known k 0 within in
            subst (λ (c : List ℕ). Contains codes c) (same_value (code_at codes p) code (sym (code_here codes ps k within) ∙ e)) (contained_code codes p (code_at codes p) (slice_get_at codes p [] (code_at codes p) at refl));
        apart = λ k l h i e.
            let within : l < length ps = omega arith in
            let before : k < length ps = omega arith in
            distinct k l 0 h within (one_listed codes (get_or ps k 0) (get_or ps l 0) apart (known k 0 before) (known l 0 within) (same_value (code_at codes (get_or ps k 0)) (code_at codes (get_or ps l 0)) (sym (code_here codes ps k before) ∙ e ∙ code_here codes ps l within)));
      },
    )

-- and so is each of the lists
listed_named : (codes cs ls : List (List ℕ)) → AreApart codes (length codes) → All (λ xs. 0 < length xs) ls → All (λ xs. length xs ≤ RANKS) ls → All (λ xs. All (λ p. p < length codes) xs) ls → All (λ xs. AllPairs (λ p q. p ≢ q) xs) ls
    → All (λ e. IsListOf Round codes e.list) (students_named codes cs ls)
listed_named codes [] ls apart some few known distinct = All-nil (λ (e : Student). IsListOf Round codes e.list)
listed_named codes (c ∷ cs) [] apart some few known distinct = All-nil (λ (e : Student). IsListOf Round codes e.list)
listed_named codes (c ∷ cs) (l ∷ ls) apart some few known distinct =
    let e : Student = record { code = c; list = map (code_at codes) l } in
    All-cons (λ (e : Student). IsListOf Round codes e.list) e (students_named codes cs ls)
    (sound_named codes l apart (All-head (λ (xs : List ℕ). 0 < length xs) l ls some) (All-head (λ (xs : List ℕ). length xs ≤ RANKS) l ls few) (All-head (λ (xs : List ℕ). All (λ p. p < length codes) xs) l ls known) (All-head (λ (xs : List ℕ). AllPairs (λ p q. p ≢ q) xs) l ls distinct))
    (listed_named codes cs ls apart (All-tail (λ (xs : List ℕ). 0 < length xs) l ls some) (All-tail (λ (xs : List ℕ). length xs ≤ RANKS) l ls few) (All-tail (λ (xs : List ℕ). All (λ p. p < length codes) xs) l ls known) (All-tail (λ (xs : List ℕ). AllPairs (λ p q. p ≢ q) xs) l ls distinct))

-- places of lists are places of the students
placed_named : (codes cs ls : List (List ℕ)) (ks : List (Option ℕ)) → length cs ≡ length ls → length ks ≡ length ls → ((s k : ℕ) → slice_get ks s ≡ Some (Some k) → IsPlaceOf (get_or ls s []) k) → AllZip IsPlace (students_named codes cs ls) ks
placed_named codes [] [] [] h i at = tt
placed_named codes [] [] (k ∷ ks) h i at = absurd (omega arith)
placed_named codes [] (l ∷ ls) ks h i at = absurd (omega arith)
placed_named codes (c ∷ cs) [] ks h i at = absurd (omega arith)
placed_named codes (c ∷ cs) (l ∷ ls) [] h i at = absurd (omega arith)
placed_named codes (c ∷ cs) (l ∷ ls) (None ∷ ks) h i at = (tt, placed_named codes cs ls ks (omega arith) (omega arith) (λ s k e. at (suc s) k e))
placed_named codes (c ∷ cs) (l ∷ ls) (Some k ∷ ks) h i at =
    let here : IsPlaceOf l k = at 0 k refl in
    let many : length (map (code_at codes) l) ≡ length l = length-map l (code_at codes) in
    (record { first = omega arith; last = omega arith }, placed_named codes cs ls ks (omega arith) (omega arith) (λ s k e. at (suc s) k e))

-- nobody has a place
unplaced_named : (codes cs ls : List (List ℕ)) → length cs ≡ length ls → AllZip IsPlace (students_named codes cs ls) (map (λ e. None) ls)
unplaced_named codes [] [] h = tt
unplaced_named codes [] (l ∷ ls) h = absurd (omega arith)
unplaced_named codes (c ∷ cs) [] h = absurd (omega arith)
unplaced_named codes (c ∷ cs) (l ∷ ls) h = (tt, unplaced_named codes cs ls (omega arith))

-- prices of as many entries
priced : (m n : ℕ) (vs : List (List ℤ)) → m ≡ n → length vs ≡ n → All (λ v. length v ≡ COMPONENTS) vs → AllInRange vs → ArePricesOrNone m vs
priced m n vs e h numbers range = record {
  none_or_all = inr (omega arith);
  prices = λ k d l. record { numbers = numbers k d l; range = subst EachInRange (get_or_default vs k [] d l) (range k l) };
}

-- there are none
unpriced : (m : ℕ) → ArePricesOrNone m []
unpriced m = record { none_or_all = inl refl; prices = λ k d h. absurd (omega arith) }

-- each code of the three rolls has the form
pub record HasForms (i : Named) : Type 0 where
  pub supervisors : All (λ c. IsTrue (is_code c)) i.supervisor_codes
  pub projects : All (λ c. IsTrue (is_code c)) i.project_codes
  pub students : All (λ c. IsTrue (is_code c)) i.student_codes

-- and they rise
pub record HasRises (i : Named) : Type 0 where
  pub supervisors : Rise (supervisor_codes (instance_of i))
  pub projects : Rise (project_codes (instance_of i))
  pub students : Rise (student_codes (instance_of i))

-- each price has its numbers
pub record HasNumbers (p : Prices) : Type 0 where
  pub students : All (λ v. length v ≡ COMPONENTS) p.students.items
  pub projects : All (λ v. length v ≡ COMPONENTS) p.projects.items
  pub supervisors : All (λ v. length v ≡ COMPONENTS) p.supervisors.items

-- codes of a roll, said of those that name it
roll : (cs ds : List (List ℕ)) → cs ≡ ds → All (λ c. IsTrue (is_code c)) ds → Rise cs → IsRoll cs
roll cs ds e form rise = record { form = subst (λ (l : List (List ℕ)). All (λ c. IsTrue (is_code c)) l) (sym e) form; rise = rise }

-- there are as many supervisors by codes
supervisor_count : (i : Named) → IsFit i → length (instance_of i).supervisors ≡ length i.shape.supervisors
supervisor_count i fit = sym (length-map (instance_of i).supervisors (λ (e : Supervisor). e.code)) ∙ ap length (named_supervisors i.supervisor_codes i.shape.supervisors fit.supervisors.one_each) ∙ fit.supervisors.one_each

-- and projects
project_count : (i : Named) → IsFit i → length (instance_of i).projects ≡ length i.shape.projects
project_count i fit = sym (length-map (instance_of i).projects (λ (e : Project). e.code)) ∙ ap length (named_projects i.supervisor_codes i.project_codes i.shape.projects fit.projects.one_each) ∙ fit.projects.one_each

-- and students
student_count : (i : Named) → IsFit i → length (instance_of i).students ≡ length i.shape.students
student_count i fit = sym (length-map (instance_of i).students (λ (e : Student). e.code)) ∙ ap length (named_students i.project_codes i.student_codes i.shape.students fit.students.one_each) ∙ fit.students.one_each

-- a fit instance is within the limits by codes
within_limits : (i : Named) → IsFit i → IsWithin (instance_of i)
within_limits i fit = record {
  supervisors = omega (arith, supervisor_count i fit, fit.limits.supervisors);
  projects = omega (arith, project_count i fit, fit.limits.projects);
  students = omega (arith, student_count i fit, fit.limits.students);
  supervisor_quotas = supervisor_quotas i.supervisor_codes i.shape.supervisors fit.limits.supervisor_quotas;
  project_quotas = project_quotas i.supervisor_codes i.project_codes i.shape.projects fit.limits.project_quotas;
}

-- the supervisors of projects are known
all_offered : (i : Named) → IsFit i → All (λ e. Contains (supervisor_codes (instance_of i)) e.supervisor) (instance_of i).projects
all_offered i fit =
    let known : All (λ (p : ℕ × ℕ). p.0 < length i.supervisor_codes) i.shape.projects = λ k d h. (let r = fit.sound.offered k d h in omega (arith, r, fit.supervisors.one_each)) in
    subst (λ (l : List (List ℕ)). All (λ (e : Project). Contains l e.supervisor) (instance_of i).projects) (sym (named_supervisors i.supervisor_codes i.shape.supervisors fit.supervisors.one_each))
    (offered_named i.supervisor_codes i.project_codes i.shape.projects known)

-- the lists are sound
all_listed : (i : Named) → IsFit i → All (λ e. IsListOf Round (project_codes (instance_of i)) e.list) (instance_of i).students
all_listed i fit =
    let known : All (λ (xs : List ℕ). All (λ p. p < length i.project_codes) xs) i.shape.students = λ k d h m e l. (let r = fit.sound.known k d h m e l in omega (arith, r, fit.projects.one_each)) in
    subst (λ (l : List (List ℕ)). All (λ (e : Student). IsListOf Round l e.list) (instance_of i).students) (sym (named_projects i.supervisor_codes i.project_codes i.shape.projects fit.projects.one_each))
    (listed_named i.project_codes i.student_codes i.shape.students (subst (AreApart i.project_codes) (sym fit.projects.one_each) fit.projects.distinct) fit.sound.ranked fit.sound.within known fit.sound.distinct)

-- a fit instance whose codes have the form and rise is one of a round
round_instance : (i : Named) → IsFit i → HasForms i → HasRises i → IsInstance Round (instance_of i)
round_instance i fit form rise = record {
  within = within_limits i fit;
  supervisors = roll (supervisor_codes (instance_of i)) i.supervisor_codes (named_supervisors i.supervisor_codes i.shape.supervisors fit.supervisors.one_each) form.supervisors rise.supervisors;
  projects = roll (project_codes (instance_of i)) i.project_codes (named_projects i.supervisor_codes i.project_codes i.shape.projects fit.projects.one_each) form.projects rise.projects;
  students = roll (student_codes (instance_of i)) i.student_codes (named_students i.project_codes i.student_codes i.shape.students fit.students.one_each) form.students rise.students;
  offered = all_offered i fit;
  listed = all_listed i fit;
}

-- an aim and an instance alone are the parts of a round
pub alone_whole : (i : Named) (aim : Aim) → IsFit i → HasForms i → HasRises i → IsRoundParts (alone i aim)
alone_whole i aim fit form rise = record {
  instance = round_instance i fit form rise;
  places = unplaced_named i.project_codes i.student_codes i.shape.students fit.students.one_each;
  student_prices = unpriced (length (instance_of i).students);
  project_prices = unpriced (length (instance_of i).projects);
  supervisor_prices = unpriced (length (instance_of i).supervisors);
}

-- and so it is with a matching and prices
pub proved_whole : (i : Named) (aim : Aim) (ks : List (Option ℕ)) (p : Prices) → IsFit i → HasForms i → HasRises i → HasPlaces i.shape ks → HasShape i.shape p → HasNumbers p → IsRoundParts (proved i aim ks p)
proved_whole i aim ks p fit form rise places shape numbers = record {
  instance = round_instance i fit form rise;
  places = placed_named i.project_codes i.student_codes i.shape.students ks fit.students.one_each places.one_each places.in_list;
  student_prices = priced (length (instance_of i).students) (length i.shape.students) p.students.items (student_count i fit) shape.students numbers.students shape.students_range;
  project_prices = priced (length (instance_of i).projects) (length i.shape.projects) p.projects.items (project_count i fit) shape.projects numbers.projects shape.projects_range;
  supervisor_prices = priced (length (instance_of i).supervisors) (length i.shape.supervisors) p.supervisors.items (supervisor_count i fit) shape.supervisors numbers.supervisors shape.supervisors_range;
}
