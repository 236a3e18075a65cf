-- What is left to write.
use Rattle.std.proofs.Common.{◌≡◌, ℕ, false, ◌+◌, ◌-◌, ◌<◌, ℤ, List, [], ◌∷◌, ◌++◌, length, get_or, map, drop, codes, Option, Some, None, flat_map, refl, sym, ap, ◌∙◌, arith, append_assoc, append-nil, add-one, drop-cons}
use Rattle.intake.proofs.Common.{signed_decimal, get_or-map, Aim, IsPlaceOf, choice_at, code_at, flat_map-append, student_codes, Named, IsFit, instance_of, supervisors_named, projects_named, students_named, Prices, proved, sections, instance_sections, Section, instance_text, round_text, line, ended, section_lines, aim_rows, supervisor_row, project_row, student_row, pair_rows, price_rows, ⊤, Parts, Kind, Round, Public, Row, HasLine, has_line, pair_row, posted_parts, price_row, public_text, assigned_list}
use Rattle.public_result.specs.declared.posted.Posted.{Posted}
use Rattle.intake.proofs.Where.{no_rows}

-- a line x is written, and the rest is left
pub next : (out new x rest whole : List ℕ) → new ≡ out ++ (x ++ []) → out ++ (x ++ rest) ≡ whole → new ++ rest ≡ whole
next out new x rest whole e h = ap (λ n. n ++ rest) (e ∙ ap (λ y. out ++ y) (append-nil x)) ∙ append_assoc out x rest ∙ h

-- the lines of some supervisors
abbrev pub supervisor_text : List (List ℕ) → List ℕ → List ℕ
supervisor_text cs qs = ended (section_lines (record { letter = codes "S"; rows = map supervisor_row (supervisors_named cs qs) }))

-- the lines of some projects, where the first list has the supervisors' codes
abbrev pub project_text : List (List ℕ) → List (List ℕ) → List (ℕ × ℕ) → List ℕ
project_text supervisors cs ps = ended (section_lines (record { letter = codes "P"; rows = map project_row (projects_named supervisors cs ps) }))

-- the lines of some students, where the first list has the projects' codes
abbrev pub student_text : List (List ℕ) → List (List ℕ) → List (List ℕ) → List ℕ
student_text projects cs lists = ended (section_lines (record { letter = codes "C"; rows = map student_row (students_named projects cs lists) }))

-- of what some students are assigned
abbrev pub assigned_text : List (List ℕ) → List (List ℕ) → List (Option ℕ) → List ℕ
assigned_text projects cs ts = ended (section_lines (record { letter = codes "R"; rows = map student_row (students_named projects cs (map assigned_list ts)) }))

-- the lines of the pairs of some students
abbrev pub pair_text : List (List ℕ) → List (List ℕ) → List (List ℕ) → List (Option ℕ) → List ℕ
pair_text projects cs lists places = ended (section_lines (record { letter = codes "M"; rows = pair_rows (students_named projects cs lists) places }))

-- the lines of some prices
abbrev pub price_text : Kind → List ℕ → List (List ℕ) → List (List ℤ) → List ℕ
price_text k letter cs vs = ended (section_lines (record { letter = letter; rows = price_rows k cs vs }))

-- two lists of sections, written one after the other
pub both_written : (ss ts : List Section) → ended (flat_map section_lines ss) ++ ended (flat_map section_lines ts) ≡ ended (flat_map section_lines (ss ++ ts))
both_written ss ts = sym (flat_map-append (λ (l : List ℕ). l ++ 10 ∷ []) (flat_map section_lines ss) (flat_map section_lines ts)) ∙ ap ended (sym (flat_map-append section_lines ss ts))

-- sections were written one after the other, with this text after each
abbrev Written : List ℕ → List Section → List (List ℕ) → Type 0
Written out [] [] = ⊤
Written out [] (x ∷ xs) = ⊥
Written out (s ∷ ss) [] = ⊥
Written out (s ∷ ss) (x ∷ xs) = (x ≡ out ++ ended (section_lines s)) × Written x ss xs

-- the text in the end
abbrev end : List ℕ → List (List ℕ) → List ℕ
end out [] = out
end out (x ∷ xs) = end x xs

-- it is that of all sections
all_written : (out : List ℕ) (ss : List Section) (xs : List (List ℕ)) → Written out ss xs → end out xs ≡ out ++ ended (flat_map section_lines ss)
all_written out [] [] w = sym (append-nil out)
all_written out [] (x ∷ xs) w = absurd w
all_written out (s ∷ ss) [] w = absurd w
all_written out (s ∷ ss) (x ∷ xs) w =
    all_written x ss xs w.1 ∙ ap (λ (o : List ℕ). o ++ ended (flat_map section_lines ss)) w.0 ∙ append_assoc out (ended (section_lines s)) (ended (flat_map section_lines ss))
    ∙ ap (λ (t : List ℕ). out ++ t) (sym (flat_map-append (λ (l : List ℕ). l ++ 10 ∷ []) (section_lines s) (flat_map section_lines ss)))

-- a section without rows
written_none : (out letter : List ℕ) (rows : List Row) → rows ≡ [] → out ≡ out ++ ended (section_lines (record { letter = letter; rows = rows }))
written_none out letter rows e = sym (append-nil out) ∙ ap (λ (rows : List Row). out ++ ended (map (line letter) rows)) (sym e)

-- an option that is no value
pub is_none : (o : Option ℕ) → ((x : ℕ) → o ≡ Some x → ⊥) → o ≡ None
is_none None h = refl
is_none (Some x) h = absurd (h x refl)

-- a student without a place
pub pairs_none : (p cs ls : List (List ℕ)) (ks : List (Option ℕ)) (s : ℕ) → s < length cs → s < length ls → s < length ks → get_or ks s None ≡ None
    → pair_text p (drop s cs) (drop s ls) (drop s ks) ≡ pair_text p (drop (s + 1) cs) (drop (s + 1) ls) (drop (s + 1) ks)
pairs_none p cs ls ks s h i j e = rw (drop-cons cs s [], drop-cons ls s [], drop-cons ks s None, e) (simp add-one)

-- a student with a place
pub pairs_some : (p cs ls : List (List ℕ)) (ks : List (Option ℕ)) (s k q : ℕ) (student project : List ℕ) → s < length cs → s < length ls → s < length ks → get_or ks s None ≡ Some k
    → IsPlaceOf (get_or ls s []) k → choice_at (get_or ls s []) k ≡ q → get_or cs s [] ≡ student → get_or p q [] ≡ project
    → pair_text p (drop s cs) (drop s ls) (drop s ks) ≡ (line (codes "M") (student ∷ project ∷ []) ++ 10 ∷ []) ++ pair_text p (drop (s + 1) cs) (drop (s + 1) ls) (drop (s + 1) ks)
pairs_some p cs ls ks s k q student project h i j e known listed student_is project_is =
    let within : k - 1 < length (get_or ls s []) = omega arith in
    let listed_code : get_or (map (code_at p) (get_or ls s [])) (k - 1) [] ≡ project = get_or-map (code_at p) (get_or ls s []) (k - 1) 0 [] within ∙ ap (code_at p) listed ∙ project_is in
    rw (drop-cons cs s [], drop-cons ls s [], drop-cons ks s None, e, listed_code, student_is) (simp add-one)

-- the next line of prices
pub next_price : (k : Kind) (letter : List ℕ) (cs : List (List ℕ)) (vs : List (List ℤ)) (n : ℕ) (code : List ℕ) (v : List ℤ) → n < length cs → n < length vs → get_or cs n [] ≡ code → get_or vs n [] ≡ v → HasLine k v
    → price_text k letter (drop n cs) (drop n vs) ≡ (line letter (code ∷ map signed_decimal v) ++ 10 ∷ []) ++ price_text k letter (drop (n + 1) cs) (drop (n + 1) vs)
next_price k letter cs vs n code v h i code_is v_is e = rw (drop-cons cs n [], drop-cons vs n [], code_is, v_is, e) (simp add-one)

-- of a price without one there is none
pub no_price : (k : Kind) (letter : List ℕ) (cs : List (List ℕ)) (vs : List (List ℤ)) (n : ℕ) → n < length cs → n < length vs → has_line k (get_or vs n []) ≡ false → price_text k letter (drop n cs) (drop n vs) ≡ price_text k letter (drop (n + 1) cs) (drop (n + 1) vs)
no_price k letter cs vs n h i e = rw (drop-cons cs n [], drop-cons vs n [], e) (simp add-one)

-- the instance's sections, and then those of a matching and prices
pub joined : (i : Named) (aim : Aim) (places : List (Option ℕ)) (prices : Prices) (out new : List ℕ) → out ≡ instance_text aim (instance_of i)
    → new ≡ out ++ ended (flat_map section_lines (drop 4 (sections Round (proved i aim places prices)))) → new ≡ round_text (proved i aim places prices)
joined i aim places prices out new e f =
    let rest = drop 4 (sections Round (proved i aim places prices)) in
    f ∙ ap (λ (o : List ℕ). o ++ ended (flat_map section_lines rest)) e ∙ both_written (instance_sections Round aim (instance_of i)) rest

-- the codes of supervisors by codes are those that name them
pub named_supervisors : (cs : List (List ℕ)) (qs : List ℕ) → length cs ≡ length qs → map (λ e. e.code) (supervisors_named cs qs) ≡ cs
named_supervisors [] qs h = refl
named_supervisors (c ∷ cs) [] h = absurd (omega arith)
named_supervisors (c ∷ cs) (q ∷ qs) h = ap (λ (rest : List (List ℕ)). c ∷ rest) (named_supervisors cs qs (omega arith))

-- the same of projects
pub named_projects : (supervisors cs : List (List ℕ)) (ps : List (ℕ × ℕ)) → length cs ≡ length ps → map (λ e. e.code) (projects_named supervisors cs ps) ≡ cs
named_projects supervisors [] ps h = refl
named_projects supervisors (c ∷ cs) [] h = absurd (omega arith)
named_projects supervisors (c ∷ cs) (p ∷ ps) h = ap (λ (rest : List (List ℕ)). c ∷ rest) (named_projects supervisors cs ps (omega arith))

-- the same of students
pub named_students : (projects cs ls : List (List ℕ)) → length cs ≡ length ls → map (λ e. e.code) (students_named projects cs ls) ≡ cs
named_students projects [] ls h = refl
named_students projects (c ∷ cs) [] h = absurd (omega arith)
named_students projects (c ∷ cs) (l ∷ ls) h = ap (λ (rest : List (List ℕ)). c ∷ rest) (named_students projects cs ls (omega arith))

-- the lines of prices that were written for codes, said of the same codes
moved : (k : Kind) (letter : List ℕ) (cs ds : List (List ℕ)) (vs : List (List ℤ)) (out new : List ℕ) → ds ≡ cs → new ≡ out ++ price_text k letter cs vs → new ≡ out ++ price_text k letter ds vs
moved k letter cs ds vs out new e h = h ∙ ap (λ (l : List (List ℕ)). out ++ price_text k letter l vs) (sym e)

-- the lines of a matching and of prices that were written in order
pub four_written : (i : Named) (aim : Aim) (places : List (Option ℕ)) (prices : Prices) (out a b d e : List ℕ) → IsFit i
    → a ≡ out ++ pair_text i.project_codes i.student_codes i.shape.students places → b ≡ a ++ price_text Round (codes "U") i.student_codes prices.students.items
    → d ≡ b ++ price_text Round (codes "Y") i.project_codes prices.projects.items → e ≡ d ++ price_text Round (codes "Z") i.supervisor_codes prices.supervisors.items
    → e ≡ out ++ ended (flat_map section_lines (drop 4 (sections Round (proved i aim places prices))))
four_written i aim places prices out a b d e fit ea eb ed ee =
    all_written out (drop 4 (sections Round (proved i aim places prices))) (a ∷ b ∷ d ∷ e ∷ []) (
      ea,
      (
        moved Round (codes "U") i.student_codes _ prices.students.items a b (named_students i.project_codes i.student_codes i.shape.students fit.students.one_each) eb,
        (
          moved Round (codes "Y") i.project_codes _ prices.projects.items b d (named_projects i.supervisor_codes i.project_codes i.shape.projects fit.projects.one_each) ed,
          (moved Round (codes "Z") i.supervisor_codes _ prices.supervisors.items d e (named_supervisors i.supervisor_codes i.shape.supervisors fit.supervisors.one_each) ee, tt),
        ),
      ),
    )

-- the lines of what is posted, written in order
pub posted_written : (aim : Aim) (ss ps ts : List (List ℕ)) (t : Posted) (out x0 x1 x2 x3 x4 x5 : List ℕ) → length ss ≡ length t.supervisors.items → length ps ≡ length t.projects.items → out ≡ []
    → x0 ≡ out ++ ended (section_lines (record { letter = codes "A"; rows = aim_rows aim }))
    → x1 ≡ x0 ++ supervisor_text ss t.supervisors.items → x2 ≡ x1 ++ project_text ss ps t.projects.items → x3 ≡ x2 ++ assigned_text ps ts t.students.items
    → x4 ≡ x3 ++ price_text Public (codes "Y") ps t.project_prices.items → x5 ≡ x4 ++ price_text Public (codes "Z") ss t.supervisor_prices.items
    → x5 ≡ public_text (posted_parts aim ss ps ts t)
posted_written aim ss ps ts t out x0 x1 x2 x3 x4 x5 hs hp h0 ha hb hc hd he hf =
    let p : Parts = posted_parts aim ss ps ts t in
    let pairs = written_none x3 (codes "M") _ (no_rows pair_row p.instance.students) in
    let prices = written_none x3 (codes "U") _ (no_rows (price_row Public) (student_codes p.instance)) in
    let ys = moved Public (codes "Y") ps _ t.project_prices.items x3 x4 (named_projects ss ps t.projects.items hp) he in
    let zs = moved Public (codes "Z") ss _ t.supervisor_prices.items x4 x5 (named_supervisors ss t.supervisors.items hs) hf in
    all_written out (sections Public p) (x0 ∷ x1 ∷ x2 ∷ x3 ∷ x3 ∷ x3 ∷ x4 ∷ x5 ∷ []) (ha, (hb, (hc, (hd, (pairs, (prices, (ys, (zs, tt)))))))) ∙ ap (λ (o : List ℕ). o ++ public_text p) h0
