-- Rolls as they were read, posted entry by entry.
use Rattle.std.proofs.Common.{◌≡◌, ℕ, ◌+◌, ◌-◌, ◌<◌, ◌≤◌, ℤ, Vec, Global, List, [], ◌∷◌, ◌++◌, length, map, get_or, take, replicate, slice_get, Option, Some, None, IfSome, All, Contains, refl, sym, ap, ◌∙◌, subst, arith}
use Rattle.intake.proofs.Common.{get_or_from_slice_get, Code, get_or-map, All-append, All-replicate, AllInRange, get_or_default, length-append, length-map, length-replicate, map_push, take_more, Finds, IsPrice, ArePricesUpTo, Instance, Supervisor, Project, Student, supervisors_of, projects_of, students_of, supervisors_named, projects_named, students_named, supervisor_codes, project_codes, code_at, Public, IsInstance, IsListOf, lines_of, IsDraft, IsPublicParts, draft_of, public_read, assigned_list, zeros}
use Rattle.intake.specs.declared.draft.PartialRound.{PartialRound}
use Rattle.intake.specs.declared.public_parts.PublicParts.{PublicParts}
use Rattle.intake.specs.Inside.Posting.{ArePostedProjects, ArePostedStudents, ArePostedSupervisors}
use Rattle.intake.proofs.Ends.{same_parts}
use Rattle.intake.proofs.Prices.{filled_lines, first_prices, zeros_price}
use Rattle.intake.proofs.Rolls.{project_keys, supervisor_keys, standing}
use Rattle.intake.proofs.Where.{first_few}

-- one more of what was taken of a roll
pub taken : {E Y : Type 0} (f : E → Y) (roll : List E) (n : ℕ) (d : E) (ys zs : List Y) (y : Y) → n < length roll → ys ≡ map f (take n roll) → zs ≡ ys ++ y ∷ [] → y ≡ f (get_or roll n d) → zs ≡ map f (take (n + 1) roll)
taken {Y = Y} f roll n d ys zs y h e g is =
    g ∙ ap (λ (l : List Y). l ++ y ∷ []) e ∙ ap (λ (z : Y). map f (take n roll) ++ z ∷ []) is ∙ sym (map_push f (take n roll) (get_or roll n d)) ∙ ap (map f) (sym (take_more roll n d h))

-- supervisors of these codes and quotas
supervisors_made : (es : List (List ℕ × ℕ)) → supervisors_named (map (λ e. e.0) es) (map (λ e. e.1) es) ≡ supervisors_of es
supervisors_made [] = refl
supervisors_made (e ∷ es) = ap (λ (l : List Supervisor). record { code = e.0; quota = e.1 } ∷ l) (supervisors_made es)

-- projects of these codes, supervisors and quotas
projects_made : (known : List (List ℕ)) (es : List (List ℕ × List ℕ × ℕ)) (ps : List (ℕ × ℕ)) → map (λ p. code_at known p.0) ps ≡ map (λ e. e.1) es → map (λ p. p.1) ps ≡ map (λ e. e.2) es → projects_named known (map (λ e. e.0) es) ps ≡ projects_of es
projects_made known [] ps o q = refl
projects_made known (e ∷ es) [] o q = cc
projects_made known (e ∷ es) (p ∷ ps) o q =
    let owner : code_at known p.0 ≡ e.1 = cc in
    let owners : map (λ p. code_at known p.0) ps ≡ map (λ e. e.1) es = cc in
    let quota : p.1 ≡ e.2 = cc in
    let quotas : map (λ p. p.1) ps ≡ map (λ e. e.2) es = cc in
    rw (owner, quota, projects_made known es ps owners quotas) refl

-- students of these codes and lists
students_made : (known : List (List ℕ)) (es : List (List ℕ × Vec Code Global)) (ts : List (Option ℕ)) → map (λ t. map (code_at known) (assigned_list t)) ts ≡ map (λ e. e.1.items) es
    → students_named known (map (λ e. e.0) es) (map assigned_list ts) ≡ students_of (map (λ e. (e.0, e.1.items)) es)
students_made known [] ts l = refl
students_made known (e ∷ es) [] l = cc
students_made known (e ∷ es) (t ∷ ts) l =
    let list : map (code_at known) (assigned_list t) ≡ e.1.items = cc in
    let lists : map (λ t. map (code_at known) (assigned_list t)) ts ≡ map (λ e. e.1.items) es = cc in
    rw (list, students_made known es ts lists) refl

-- what was found of the one code that stands in the place of a list
pub assigned_found : (known list : List (List ℕ)) (n : ℕ) (c : List ℕ) (o : Option ℕ) → IsListOf Public known list → n ≡ length known → slice_get list 0 ≡ Some c → Finds known n c o
    → (map (code_at known) (assigned_list o) ≡ list) × IfSome o (λ p. p < n)
assigned_found known [] n c o l many here found = cc
assigned_found known (x ∷ y ∷ list) n c o l many here found = absurd (omega (arith, l.0.1))
assigned_found known (x ∷ []) n c None l many here found =
    let at = standing known x (l.1.known 0 x (omega arith) refl) in
    let same : x ≡ c = cc in
    absurd (found at.0 (omega (arith, at.1)) (at.2 ∙ ap Some same))
assigned_found known (x ∷ []) n c (Some p) l many here found =
    let same : x ≡ c = cc in
    (ap (λ (y : List ℕ). y ∷ []) (get_or_from_slice_get known p c [] found.1 ∙ sym same), found.0)

-- what all students are assigned is known, as it is read
pub known_all : (ts us : List (Option ℕ)) (m n : ℕ) → us ≡ ts → m ≤ n → ((s p : ℕ) → s < length ts → get_or ts s None ≡ Some p → p < m) → All (λ t. IfSome t (λ p. p < n)) us
known_all ts us m n e h known = subst (λ (l : List (Option ℕ)). All (λ t. IfSome t (λ p. p < n)) l) (sym e) (λ k d l. go (get_or ts k d) (λ p is. (let b = known k p l (get_or_default ts k None d l ∙ is) in omega (arith, b, h))))
  where
    go : (t : Option ℕ) → ((p : ℕ) → t ≡ Some p → p < n) → IfSome t (λ p. p < n)
    go None f = tt
    go (Some p) f = f p refl

-- prices that were filled are as many as the entries
filled_range : (vs ws : List (List ℤ)) (m n : ℕ) → ArePricesUpTo m vs → m ≡ n → ws ≡ vs ++ replicate (n - length vs) zeros → (length ws ≡ n) × ArePricesUpTo n ws × AllInRange ws
filled_range vs ws m n a e is =
    let few = a.few in
    let fill : ℕ = n - length vs in
    let many : length ws ≡ n = omega (arith, ap length is, length-append vs (replicate fill zeros), length-replicate fill zeros, few, e) in
    let all : All IsPrice ws = subst (All IsPrice) (sym is) (All-append IsPrice vs (replicate fill zeros) a.prices (All-replicate IsPrice fill zeros zeros_price)) in
    (many, record { few = omega (arith, many); prices = all }, λ k l. (all k [] l).range)

-- what is assigned is known
told_known : (t : Option ℕ) (p n : ℕ) → IfSome t (λ p. p < n) → t ≡ Some p → p < n
told_known None p n h e = cc
told_known (Some q) p n h e = (let same : q ≡ p = cc in omega (arith, same, h))

-- there are no more prices than these
pub supervisor_prices_few : (d : PartialRound) → IsDraft Public (draft_of d) → length d.prices.supervisors.items ≤ length d.supervisors.items
supervisor_prices_few d draft = omega (arith, first_few (λ c. IsPrice) _ _ draft.prices.2.2.0, ap length (supervisor_keys d.supervisors.items), length-map d.supervisors.items (λ e. e.0))

pub project_prices_few : (d : PartialRound) → IsDraft Public (draft_of d) → length d.prices.projects.items ≤ length d.projects.items
project_prices_few d draft = omega (arith, first_few (λ c. IsPrice) _ _ draft.prices.2.0, ap length (project_keys d.projects.items), length-map d.projects.items (λ e. e.0))

-- what is so of what is made of all is so of what each is made of
unmade : {X Y : Type 0} (P : Y → Type 0) (f : X → Y) (xs : List X) → All P (map f xs) → All (λ x. P (f x)) xs
unmade P f xs a = λ k x h. subst P (get_or-map f xs k x (f x) h) (a k (f x) (omega (arith, h, length-map xs f)))

-- the supervisors of the projects that were read are known
pub offered_read : (d : PartialRound) → IsDraft Public (draft_of d) → (ss : List (List ℕ × ℕ)) (ps : List (List ℕ × List ℕ × ℕ)) → ss ≡ d.supervisors.items → ps ≡ d.projects.items → All (λ e. Contains (map (λ e. e.0) ss) e.1) ps
offered_read d draft ss ps e f =
    let known = rw (supervisor_keys d.supervisors.items) at draft.instance.offered in
    rw (e, f) (unmade (λ (q : Project). Contains (map (λ e. e.0) d.supervisors.items) q.supervisor) (λ e. record { code = e.0; supervisor = e.1; quota = e.2 }) d.projects.items known)

-- and what is assigned is
pub listed_read : (d : PartialRound) → IsDraft Public (draft_of d) → (ps : List (List ℕ × List ℕ × ℕ)) (ts : List (List ℕ × Vec Code Global)) → ps ≡ d.projects.items → ts ≡ d.students.items
    → All (λ e. IsListOf Public (map (λ e. e.0) ps) e.1.items) ts
listed_read d draft ps ts e f =
    let listed = rw (project_keys d.projects.items) at draft.instance.listed in
    let Listed : Student → Type 0 = λ q. IsListOf Public (map (λ e. e.0) d.projects.items) q.list in
    let student : List ℕ × List (List ℕ) → Student = λ e. record { code = e.0; list = e.1 } in
    rw (e, f) (unmade (λ e. Listed (student e)) (λ e. (e.0, e.1.items)) d.students.items (unmade Listed student (map (λ e. (e.0, e.1.items)) d.students.items) listed))

-- what was made of a draft
pub record IsMade (d : PartialRound) (r : PublicParts) : Type 0 where
  pub aim : r.aim ≡ d.aim
  pub supervisors : ArePostedSupervisors d.supervisors.items r.supervisors.items r.posted.supervisors.items
  pub projects : ArePostedProjects (map (λ e. e.0) d.supervisors.items) d.projects.items r.projects.items r.posted.projects.items
  pub students : ArePostedStudents (map (λ e. e.0) d.projects.items) (map (λ e. e.0) d.students.items) (map (λ e. e.1.items) d.students.items) r.students.items r.posted.students.items
  pub project_prices : r.posted.project_prices.items ≡ d.prices.projects.items ++ replicate (length r.projects.items - length d.prices.projects.items) zeros
  pub supervisor_prices : r.posted.supervisor_prices.items ≡ d.prices.supervisors.items ++ replicate (length r.supervisors.items - length d.prices.supervisors.items) zeros

-- it has the instance of the draft
instance_made : (d : PartialRound) (r : PublicParts) → IsMade d r → (public_read r).instance ≡ (draft_of d).instance
instance_made d r m =
    let ss = m.supervisors in
    let ps = m.projects in
    let ts = m.students in
    rw (ss.code, ss.quota, ps.code, ts.code, supervisors_made d.supervisors.items, projects_made (map (λ e. e.0) d.supervisors.items) d.projects.items r.posted.projects.items ps.owner ps.quota, students_made (map (λ e. e.0) d.projects.items) d.students.items r.posted.students.items ts.list) refl

-- it has the lines of the draft
pub made_lines : (d : PartialRound) (r : PublicParts) → IsDraft Public (draft_of d) → IsMade d r → lines_of Public (public_read r) ≡ lines_of Public (draft_of d)
made_lines d r draft m =
    ap (lines_of Public) (same_parts _ _ _ _ _ _ _ _ _ _ _ _ m.aim (instance_made d r m) (sym draft.bare.0) (sym draft.bare.1) m.project_prices m.supervisor_prices)
    ∙ rw (filled_lines (project_codes (draft_of d).instance) d.prices.projects.items (length r.projects.items - length d.prices.projects.items), filled_lines (supervisor_codes (draft_of d).instance) d.prices.supervisors.items (length r.supervisors.items - length d.prices.supervisors.items)) refl

-- and is the parts of a public text
pub made_parts : (d : PartialRound) (r : PublicParts) → IsDraft Public (draft_of d) → IsMade d r → IsPublicParts r
made_parts d r draft m =
    let i = instance_made d r m in
    let ss : length r.supervisors.items ≡ length d.supervisors.items = ap length m.supervisors.code ∙ length-map d.supervisors.items (λ e. e.0) in
    let qs : length r.posted.supervisors.items ≡ length d.supervisors.items = ap length m.supervisors.quota ∙ length-map d.supervisors.items (λ e. e.1) in
    let ps : length r.projects.items ≡ length d.projects.items = ap length m.projects.code ∙ length-map d.projects.items (λ e. e.0) in
    let os : length r.posted.projects.items ≡ length d.projects.items = sym (length-map r.posted.projects.items (λ p. p.1)) ∙ ap length m.projects.quota ∙ length-map d.projects.items (λ e. e.2) in
    let ts : length r.students.items ≡ length d.students.items = ap length m.students.code ∙ length-map d.students.items (λ e. e.0) in
    let us : length r.posted.students.items ≡ length d.students.items = sym (length-map r.posted.students.items (λ t. map (code_at (map (λ e. e.0) d.projects.items)) (assigned_list t))) ∙ ap length m.students.list ∙ length-map d.students.items (λ e. e.1.items) in
    let same_projects : length (public_read r).instance.projects ≡ length d.projects.items = ap (λ (j : Instance). length j.projects) i ∙ length-map d.projects.items (λ e. let p : Project = record { code = e.0; supervisor = e.1; quota = e.2 } in p) in
    let same_supervisors : length (public_read r).instance.supervisors ≡ length d.supervisors.items = ap (λ (j : Instance). length j.supervisors) i ∙ length-map d.supervisors.items (λ e. let s : Supervisor = record { code = e.0; quota = e.1 } in s) in
    let same_students : length (public_read r).instance.students ≡ length d.students.items =
    ap (λ (j : Instance). length j.students) i ∙ length-map (map (λ e. (e.0, e.1.items)) d.students.items) (λ e. let s : Student = record { code = e.0; list = e.1 } in s) ∙ length-map d.students.items (λ e. (e.0, e.1.items)) in
    let ys = filled_range d.prices.projects.items r.posted.project_prices.items _ _ (first_prices _ _ draft.prices.2.0) (ap length (project_keys d.projects.items ∙ sym m.projects.code)) m.project_prices in
    let zs = filled_range d.prices.supervisors.items r.posted.supervisor_prices.items _ _ (first_prices _ _ draft.prices.2.2.0) (ap length (supervisor_keys d.supervisors.items ∙ sym m.supervisors.code)) m.supervisor_prices in
    let valid : IsInstance Public (public_read r).instance = subst (IsInstance Public) (sym i) draft.instance in
    let limits = valid.within in
    record {
      supervisors = omega (arith, ss, qs);
      projects = omega (arith, ps, os);
      students = omega (arith, ts, us);
      parts = record {
        instance = valid;
        places = refl;
        student_prices = refl;
        project_prices = subst (λ (n : ℕ). ArePricesUpTo n r.posted.project_prices.items) (ps ∙ sym same_projects) ys.1;
        supervisor_prices = subst (λ (n : ℕ). ArePricesUpTo n r.posted.supervisor_prices.items) (ss ∙ sym same_supervisors) zs.1;
      };
      known = record {
        supervisors = omega (arith, limits.supervisors, same_supervisors, qs);
        projects = omega (arith, limits.projects, same_projects, os);
        students = omega (arith, limits.students, same_students, us);
        offered = λ k e l. (let h = m.projects.within k e l in omega (arith, h, length-map d.supervisors.items (λ e. e.0), qs));
        known = λ n p l e. (let h = told_known (get_or r.posted.students.items n None) p (length (map (λ e. e.0) d.projects.items)) (m.students.within n None l) e in omega (arith, h, length-map d.projects.items (λ e. e.0), os));
      };
      prices = record { project_prices = omega (arith, ys.0, ps, os); supervisor_prices = omega (arith, zs.0, ss, qs); projects_range = ys.2; supervisors_range = zs.2 };
    }
