-- A draft with one entry more is a draft, and has that row after the others.
use Rattle.std.proofs.Common.{◌≡◌, ℕ, ◌≤◌, List, [], ◌∷◌, ◌++◌, length, map, drop, Option, None, All, Contains, refl, sym, ap, ◌∙◌, subst, inl, inr, arith}
use Rattle.intake.proofs.Common.{AreUnpriced, IsTrue, map_push, length_push, length-map, All-push, All-nil, MAX_QUOTA, is_code, Kind, Round, Public, Supervisor, Project, Student, supervisor_codes, project_codes, student_codes, IsListOf, SectionName, Aims, Supervisors, Projects, Students, Pairs, StudentPrices, ProjectPrices, SupervisorPrices, Parts, IsRoll, IsInstance, IsPlace, Row, sections, priced, supervisor_row, project_row, student_row, pair_row, pair_rows, IsBare, IsDraft, AreFirst, HasNoPairs, HasNoPrices, HasNoProjects, HasNoStudents, NextEntry, MayComeNext, IsNext, Entry, with_entry, letter_of}
use Rattle.intake.proofs.Prices.{price_pushed, unpriced_turn, unpriced_rows}
use Rattle.intake.proofs.Sections.{NoRows, Grows, full, letter_at, full_grows}
use Rattle.intake.proofs.Where.{no_rows, position_pushed}

-- rows of one entry more, of a roll that is one with it
entry_more : {X : Type 0} (of : X → Row) (key : X → List ℕ) (most : ℕ) (Fits : X → Type 0) (roll : List X) (row : Row) (e : X) → NextEntry of key most Fits roll row e → IsRoll (map key roll)
    → IsRoll (map key (roll ++ e ∷ [])) × (length (roll ++ e ∷ []) ≤ most) × (map of (roll ++ e ∷ []) ≡ map of roll ++ row ∷ [])
entry_more of key most Fits roll row e next r =
    let few = next.code.few in (
      subst IsRoll (sym (map_push key roll e)) (record { form = All-push (λ c. IsTrue (is_code c)) (map key roll) (key e) r.form next.code.form; rise = next.code.next }),
      omega (arith, length_push roll e, length-map roll key),
      map_push of roll e ∙ ap (λ (x : Row). map of roll ++ x ∷ []) (sym next.is),
    )

-- quotas with one more
quotas_push : {X : Type 0} (quota : X → ℕ) (es : List X) (e : X) → All (λ q. q ≤ MAX_QUOTA) (map quota es) → quota e ≤ MAX_QUOTA → All (λ q. q ≤ MAX_QUOTA) (map quota (es ++ e ∷ []))
quotas_push quota es e h few = subst (λ (l : List ℕ). All (λ q. q ≤ MAX_QUOTA) l) (sym (map_push quota es e)) (All-push (λ q. q ≤ MAX_QUOTA) (map quota es) (quota e) h few)

-- a draft with the entry is one, with the row
abbrev pub Step : (k : Kind) (s : SectionName) → Parts → Row → Entry s → Type 0
Step k s p row e = IsDraft k (with_entry s p e) × (full (sections k (with_entry s p e)) ≡ full (sections k p) ++ (letter_of k s ∷ row) ∷ [])

-- so it is where no price was read and the section at position n grows by the row
unpriced_step : (k : Kind) (n : ℕ) (p q : Parts) (row : Row) → IsInstance k q.instance → AreFirst IsPlace q.instance.students q.places → IsBare k q.places q.student_prices → HasNoPrices q → Grows n (sections k p) (sections k q) row
    → IsDraft k q × (full (sections k q) ≡ full (sections k p) ++ (letter_at n (sections k p) ∷ row) ∷ [])
unpriced_step k n p q row i places bare prices grows = (record { instance = i; places = places; prices = unpriced_turn k (priced q) prices; bare = bare }, full_grows n (sections k p) (sections k q) row grows)

-- no pair and no price has a row
no_pair_rows : (k : Kind) (p : Parts) → HasNoPairs p → NoRows (drop 4 (sections k p))
no_pair_rows k p t = (ap (pair_rows p.instance.students) t.0 ∙ no_rows pair_row p.instance.students, unpriced_rows k (priced p) t.1)

-- nor has a student
no_student_rows : (k : Kind) (p : Parts) → HasNoStudents p → NoRows (drop 3 (sections k p))
no_student_rows k p t = (ap (map student_row) t.0, no_pair_rows k p t.1)

-- nor a project
no_project_rows : (k : Kind) (p : Parts) → HasNoProjects p → NoRows (drop 2 (sections k p))
no_project_rows k p t = (ap (map project_row) t.0, no_student_rows k p t.1)

-- an entry more of any section
pub step : (k : Kind) (s : SectionName) (p : Parts) (row : Row) (e : Entry s) → IsDraft k p → MayComeNext k s p → IsNext k s p row e → Step k s p row e
step k Aims p row aim d t next =
    let none : NoRows (drop 1 (sections k p)) = (ap (map supervisor_row) t.0, no_project_rows k p t.1) in
    unpriced_step k 0 p (with_entry Aims p aim) row d.instance d.places d.bare t.1.1.1.1 (refl, next, none, none)
step k Supervisors p row e d t next =
    let i = d.instance in
    let m = entry_more supervisor_row (λ (e : Supervisor). e.code) _ _ p.instance.supervisors row e next i.supervisors in
    let Known : Project → Type 0 = λ q. Contains (supervisor_codes (with_entry Supervisors p e).instance) q.supervisor in
    unpriced_step k 1 p (with_entry Supervisors p e) row
    (record {
      within = record {
        supervisors = m.1;
        projects = i.within.projects;
        students = i.within.students;
        supervisor_quotas = quotas_push (λ (e : Supervisor). e.quota) p.instance.supervisors e i.within.supervisor_quotas next.fits;
        project_quotas = i.within.project_quotas;
      };
      supervisors = m.0;
      projects = i.projects;
      students = i.students;
      offered = subst (All Known) (sym t.0) (All-nil Known);
      listed = i.listed;
    })
    d.places d.bare t.1.1.1 (refl, (refl, m.2, no_project_rows k p t, no_project_rows k (with_entry Supervisors p e) t))
step k Projects p row e d t next =
    let i = d.instance in
    let m = entry_more project_row (λ (e : Project). e.code) _ _ p.instance.projects row e next i.projects in
    let Listed : Student → Type 0 = λ s. IsListOf k (project_codes (with_entry Projects p e).instance) s.list in
    unpriced_step k 2 p (with_entry Projects p e) row
    (record {
      within = record {
        supervisors = i.within.supervisors;
        projects = m.1;
        students = i.within.students;
        supervisor_quotas = i.within.supervisor_quotas;
        project_quotas = quotas_push (λ (e : Project). e.quota) p.instance.projects e i.within.project_quotas next.fits.1;
      };
      supervisors = i.supervisors;
      projects = m.0;
      students = i.students;
      offered = All-push (λ (q : Project). Contains (supervisor_codes p.instance) q.supervisor) p.instance.projects e i.offered next.fits.0;
      listed = subst (All Listed) (sym t.0) (All-nil Listed);
    })
    d.places d.bare t.1.1 (refl, (refl, (refl, m.2, no_student_rows k p t, no_student_rows k (with_entry Projects p e) t)))
step k Students p row e d t next =
    let i = d.instance in
    let m = entry_more student_row (λ (e : Student). e.code) _ _ p.instance.students row e next i.students in
    unpriced_step k 3 p (with_entry Students p e) row
    (record {
      within = record {
        supervisors = i.within.supervisors;
        projects = i.within.projects;
        students = m.1;
        supervisor_quotas = i.within.supervisor_quotas;
        project_quotas = i.within.project_quotas;
      };
      supervisors = i.supervisors;
      projects = i.projects;
      students = m.0;
      offered = i.offered;
      listed = All-push (λ (s : Student). IsListOf k (project_codes p.instance) s.list) p.instance.students e i.listed next.fits;
    })
    (subst (λ (l : List (Option ℕ)). AreFirst IsPlace (p.instance.students ++ e ∷ []) l) (sym t.0) tt) d.bare t.1
    (refl, (refl, (refl, (refl, m.2, no_pair_rows k p t, no_pair_rows k (with_entry Students p e) t))))
step Public Pairs p row e d t next = (let round = t.0 in cc)
step Round Pairs p row e d t next =
    let q = position_pushed pair_row IsPlace (λ m n. m ≤ n) None p.instance.students p.places row e.0 e.1 (λ m n h. (h, inr (λ s. refl))) (λ s. tt) d.places next in
    unpriced_step Round 4 p (with_entry Pairs p e) row d.instance q.0 tt t.1 (refl, (refl, (refl, (refl, (refl, q.1, unpriced_rows Round (priced p) t.1, unpriced_rows Round (priced p) t.1)))))
step Public StudentPrices p row e d t next = (let round = t.0 in cc)
step Round StudentPrices p row e d t next =
    let q = price_pushed Round (student_codes p.instance) p.student_prices row e d.prices.0 next in
    let later : AreUnpriced (drop 1 (priced p)) = (t.1, (t.2, tt)) in
    let none = unpriced_rows Round (drop 1 (priced p)) later in (
      record { instance = d.instance; places = d.places; prices = (q.0, inl later, d.prices.2); bare = tt },
      full_grows 5 (sections Round p) (sections Round (with_entry StudentPrices p e)) row (refl, (refl, (refl, (refl, (refl, (refl, q.1, none, none)))))),
    )
step k ProjectPrices p row e d t next =
    let q = price_pushed k (project_codes p.instance) p.project_prices row e d.prices.2.0 next in
    let later : AreUnpriced (drop 2 (priced p)) = (t.1, tt) in
    let none = unpriced_rows k (drop 2 (priced p)) later in (
      record { instance = d.instance; places = d.places; prices = (d.prices.0, inr t.0, (q.0, inl later, d.prices.2.2)); bare = d.bare },
      full_grows 6 (sections k p) (sections k (with_entry ProjectPrices p e)) row (refl, (refl, (refl, (refl, (refl, (refl, (refl, q.1, none, none))))))),
    )
step k SupervisorPrices p row e d t next =
    let q = price_pushed k (supervisor_codes p.instance) p.supervisor_prices row e d.prices.2.2.0 next in (
      record { instance = d.instance; places = d.places; prices = (d.prices.0, inr t.0, (d.prices.2.0, inr t.1, (q.0, inl tt, tt))); bare = d.bare },
      full_grows 7 (sections k p) (sections k (with_entry SupervisorPrices p e)) row (refl, (refl, (refl, (refl, (refl, (refl, (refl, (refl, q.1, tt, tt)))))))),
    )
