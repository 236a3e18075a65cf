-- A line adds one thing at most.
use Rattle.std.proofs.Common.{◌≡◌, ℕ, suc, ◌-◌, ◌<◌, ◌≤◌, ℤ, pos, Bool, true, false, cond, List, [], ◌∷◌, length, map, get_or, slice_get, codes, Option, Some, None, decimal, refl, sym, ap, ◌∙◌, subst, arith, rules}
use Rattle.intake.proofs.Common.{same_position, slice_get_at, signed_decimal, bytes_eq, decimal_injective, signed_decimal_injective, IsPlaceOf, Aim, MAX_QUOTA, code_at, AreApart, Supervisor, Project, Student, project_codes, IsListOf, InRange, Kind, Parts, Rise, IsPlace, IsPrice, Row, choice_code, aim_rows, supervisor_row, project_row, student_row, pair_row, price_row, SectionName, Aims, Supervisors, Projects, Students, Pairs, StudentPrices, ProjectPrices, SupervisorPrices, IsDraft, Adds, AddsEntry, AddsIn, AddsLine, Entry, MayComeNext, IsNext, NextPosition, NextPrice, letter_of, with_entry}
use Rattle.std.proofs.lemmas.List.{map-id}
use Rattle.intake.proofs.Lists.{first_field, other_fields}
use Rattle.intake.proofs.Numbers.{small}
use Rattle.intake.proofs.Order.{get_mapped}
use Rattle.intake.proofs.PairLine.{all_found, one_place}
use Rattle.intake.proofs.Prices.{price_head, price_is}
use Rattle.intake.proofs.Where.{code_of}

-- quotas that are written the same are the same
same_quota : (m n : ℕ) → m ≤ MAX_QUOTA → n ≤ MAX_QUOTA → decimal m ≡ decimal n → m ≡ n
same_quota m n h i e = decimal_injective m n (omega arith) (omega arith) e

-- aims with the same rows are the same
same_aim : (a b : Aim) → aim_rows a ≡ aim_rows b → a ≡ b
same_aim a b e = search rules

-- supervisors with the same rows are the same
same_supervisor : (x y : Supervisor) → x.quota ≤ MAX_QUOTA → y.quota ≤ MAX_QUOTA → supervisor_row x ≡ supervisor_row y → x ≡ y
same_supervisor x y h i e =
    let code : x.code ≡ y.code = cc in
    let number : decimal x.quota ≡ decimal y.quota = cc in
    ap (λ (c : List ℕ). let s : Supervisor = record { code = c; quota = x.quota } in s) code
    ∙ ap (λ (q : ℕ). let s : Supervisor = record { code = y.code; quota = q } in s) (same_quota x.quota y.quota h i number)

-- and of a project
same_project : (x y : Project) → x.quota ≤ MAX_QUOTA → y.quota ≤ MAX_QUOTA → project_row x ≡ project_row y → x ≡ y
same_project x y h i e =
    let number : decimal x.quota ≡ decimal y.quota = cc in
    let code : x.code ≡ y.code = cc in
    let owner : x.supervisor ≡ y.supervisor = cc in
    ap (λ (q : ℕ). let s : Project = record { code = x.code; supervisor = x.supervisor; quota = q } in s) (same_quota x.quota y.quota h i number)
    ∙ ap (λ (c : List ℕ). let s : Project = record { code = c; supervisor = x.supervisor; quota = y.quota } in s) code
    ∙ ap (λ (o : List ℕ). let s : Project = record { code = y.code; supervisor = o; quota = y.quota } in s) owner

-- and students
same_student : (x y : Student) → student_row x ≡ student_row y → x ≡ y
same_student x y e =
    let code : x.code ≡ y.code = cc in
    let list : x.list ≡ y.list = cc in
    ap (λ (c : List ℕ). let s : Student = record { code = c; list = x.list } in s) code ∙ ap (λ (l : List (List ℕ)). let s : Student = record { code = y.code; list = l } in s) list

-- a project stands at one position of a list
pub one_listed : (list : List (List ℕ)) (k l : ℕ) → AreApart list (length list) → k < length list → l < length list → code_at list k ≡ code_at list l → k ≡ l
one_listed list k l apart h i e = same_position list k l (code_at list l) apart (slice_get_at list k [] (code_at list l) h e) (slice_get_at list l [] (code_at list l) i refl)

-- and so at one place
one_choice : (list : List (List ℕ)) (k l : ℕ) → AreApart list (length list) → IsPlaceOf list k → IsPlaceOf list l → choice_code list k ≡ choice_code list l → k ≡ l
one_choice list k l apart h i e = let same = one_listed list (k - 1) (l - 1) apart (omega arith) (omega arith) e in omega (arith, same)

-- places with the same row are the same
same_place : (e : Student) (x y : Option ℕ) (r : Row) → AreApart e.list (length e.list) → IsPlace e x → IsPlace e y → pair_row e x ≡ Some r → pair_row e y ≡ Some r → x ≡ y
same_place e None y r apart h i a b = cc
same_place e (Some k) None r apart h i a b = cc
same_place e (Some k) (Some l) r apart h i a b = (let same : choice_code e.list k ≡ choice_code e.list l = cc in ap Some (one_choice e.list k l apart h i same))

-- in a pair's row the student's code stands first
place_head : (e : Student) (x : Option ℕ) (r : Row) → pair_row e x ≡ Some r → code_of r ≡ e.code
place_head e None r h = cc
place_head e (Some k) r h = (let is : e.code ∷ choice_code e.list k ∷ [] ≡ r = cc in ap code_of (sym is))

-- numbers that are written the same are the same
same_numbers : (v w : List ℤ) → ((t : ℕ) → t < length v → InRange (get_or v t (pos 0))) → ((t : ℕ) → t < length w → InRange (get_or w t (pos 0))) → map signed_decimal v ≡ map signed_decimal w → v ≡ w
same_numbers [] [] a b e = refl
same_numbers [] (y ∷ w) a b e = cc
same_numbers (x ∷ v) [] a b e = cc
same_numbers (x ∷ v) (y ∷ w) a b e =
    let first : signed_decimal x ≡ signed_decimal y = cc in
    let rest : map signed_decimal v ≡ map signed_decimal w = cc in
    ap (λ (n : ℤ). n ∷ v) (signed_decimal_injective x y (small x (a 0 (omega arith))) (small y (b 0 (omega arith))) first)
    ∙ ap (λ (l : List ℤ). y ∷ l) (same_numbers v w (λ t h. a (suc t) (omega arith)) (λ t h. b (suc t) (omega arith)) rest)

-- and so are prices
pub same_price : (v w : List ℤ) → IsPrice v → IsPrice w → map signed_decimal v ≡ map signed_decimal w → v ≡ w
same_price v w a b e = same_numbers v w (λ t h. a.range t (omega (arith, a.numbers))) (λ t h. b.range t (omega (arith, b.numbers))) e

-- what comes next at a position is one, where the codes rise and each row says what it is of
one_position : {E X : Type 0} (of : E → X → Option Row) (key : E → List ℕ) (Fits : E → X → Type 0) (After : ℕ → ℕ → Type 0) → ((e : E) (x : X) (r : Row) → of e x ≡ Some r → code_of r ≡ key e) → (es : List E) (xs : List X) (row : Row) (e f : ℕ × X)
    → ((n : ℕ) (d : E) (x y : X) → slice_get es n ≡ Some d → Fits d x → Fits d y → of d x ≡ Some row → of d y ≡ Some row → x ≡ y) → Rise (map key es)
    → NextPosition of Fits After es xs row e.0 e.1 → NextPosition of Fits After es xs row f.0 f.1 → e ≡ f
one_position {E = E} {X = X} of key Fits After heads es xs row e f same rise a b =
    let code : key b.entry ≡ key a.entry = sym (heads b.entry f.1 row b.is) ∙ heads a.entry e.1 row a.is in
    let at : e.0 ≡ f.0 = one_place (map key es) e.0 f.0 (key a.entry) rise (get_mapped key es e.0 a.entry a.here) (get_mapped key es f.0 b.entry b.here ∙ ap Some code) in
    let found : Some a.entry ≡ Some b.entry = sym a.here ∙ ap (slice_get es) at ∙ b.here in
    let entry : a.entry ≡ b.entry = cc in
    let it : e.1 ≡ f.1 = same e.0 a.entry e.1 f.1 a.here a.fits (subst (λ (d : E). Fits d f.1) (sym entry) b.fits) a.is (ap (λ (d : E). of d f.1) entry ∙ b.is) in
    ap (λ (n : ℕ). let p : ℕ × X = (n, e.1) in p) at ∙ ap (λ (x : X). let p : ℕ × X = (f.0, x) in p) it

-- the next price of codes is one
one_price : (k : Kind) (cs : List (List ℕ)) (vs : List (List ℤ)) (row : Row) (e f : ℕ × List ℤ) → Rise (map (λ c. c) cs) → NextPrice k cs vs row e → NextPrice k cs vs row f → e ≡ f
one_price k cs vs row e f rise a b =
    one_position (price_row k) (λ c. c) (λ c. IsPrice) _ (price_head k) cs vs row e f
    (λ n c v w at p q x y. same_price v w p q (other_fields _ _ _ _ (sym (price_is k c v row x).1 ∙ (price_is k c w row y).1))) rise a b

-- the next entry of a section is one
one_entry : (k : Kind) (s : SectionName) (old : Parts) (row : Row) (e f : Entry s) → IsDraft k old → IsNext k s old row e → IsNext k s old row f → e ≡ f
one_entry k Aims old row e f d a b = same_aim e f (a ∙ sym b)
one_entry k Supervisors old row e f d a b = same_supervisor e f a.fits b.fits (sym a.is ∙ b.is)
one_entry k Projects old row e f d a b = same_project e f a.fits.1 b.fits.1 (sym a.is ∙ b.is)
one_entry k Students old row e f d a b = same_student e f (sym a.is ∙ b.is)
one_entry k Pairs old row e f d a b =
    one_position pair_row (λ (e : Student). e.code) IsPlace _ place_head old.instance.students old.places row e f
    (λ n st x y at h i p q. (let sound = all_found (λ (e : Student). IsListOf k (project_codes old.instance) e.list) old.instance.students n st d.instance.listed at in same_place st x y row sound.1.apart h i p q)) d.instance.students.rise a b
one_entry k StudentPrices old row e f d a b = one_price k _ old.student_prices row e f (subst Rise (sym (map-id _)) d.instance.students.rise) a b
one_entry k ProjectPrices old row e f d a b = one_price k _ old.project_prices row e f (subst Rise (sym (map-id _)) d.instance.projects.rise) a b
one_entry k SupervisorPrices old row e f d a b = one_price k _ old.supervisor_prices row e f (subst Rise (sym (map-id _)) d.instance.supervisors.rise) a b

-- the section of a letter
abbrev section_of : List ℕ → SectionName
section_of l =
    cond (bytes_eq l (codes "A")) Aims (cond (bytes_eq l (codes "S")) Supervisors (cond (bytes_eq l (codes "P")) Projects (cond (bytes_eq l (codes "M")) Pairs
    (cond (bytes_eq l (codes "U")) StudentPrices (cond (bytes_eq l (codes "Y")) ProjectPrices (cond (bytes_eq l (codes "Z")) SupervisorPrices Students))))))

-- it is the one with the letter
letter_says : (k : Kind) (s : SectionName) → section_of (letter_of k s) ≡ s
letter_says k s = search rules

-- what fields with the letter of a section add, they add there
pub adds_in : (k : Kind) (s : SectionName) (old : Parts) (fields row : Row) (new : Parts) → fields ≡ letter_of k s ∷ row → Adds k old fields new → AddsIn k s old row new
adds_in k s old fields row new e a =
    let both = sym a.is ∙ e in
    let section : a.section ≡ s = sym (letter_says k a.section) ∙ ap section_of (first_field _ _ _ _ both) ∙ letter_says k s in
    subst (λ (r : Row). AddsIn k s old r new) (other_fields _ _ _ _ both) (subst (λ (t : SectionName). AddsIn k t old a.row new) section a.adds)

-- fields add one thing
pub adds_one : (k : Kind) (old : Parts) (fields : Row) (a b : Parts) → IsDraft k old → Adds k old fields a → Adds k old fields b → a ≡ b
adds_one k old fields a b d x y =
    let z = adds_in k x.section old fields x.row b x.is y in
    x.adds.made ∙ ap (with_entry x.section old) (one_entry k x.section old x.row x.adds.entry z.entry d x.adds.next z.next) ∙ sym z.made

-- fields with the letter of a section whose turn it is add what was added there
pub adds_line : (k : Kind) (s : SectionName) (old : Parts) (fields row : Row) (new : Parts) (b : Bool) → fields ≡ letter_of k s ∷ row → MayComeNext k s old → AddsEntry k s old row new b → AddsLine k old fields new b
adds_line k s old fields row new true e t h = record { section = s; row = row; is = e; adds = record { turn = t; entry = h.0; next = h.1; made = h.2 } }
adds_line k s old fields row new false e t h = λ other a. (let i = adds_in k s old fields row other e a in h i.entry i.next)
