-- A draft may be completed, and a complete one is the parts of its text.
use Rattle.std.proofs.Common.{◌≡◌, ℕ, zero, suc, ◌+◌, ◌-◌, ℤ, List, [], ◌∷◌, ◌++◌, length, map, flat_map, replicate, codes, Option, None, All, Contains, refl, sym, ap, ◌∙◌, subst, arith, append-nil, append_assoc}
use Rattle.intake.proofs.Common.{slice_get_within, AllZip, map-append, length-map, All-map, Aim, Instance, Kind, Round, Public, Supervisor, Project, Student, supervisor_codes, project_codes, student_codes, IsFirstRepeated, IsListOf, IsFirstUnknown, IsListFault, IsFirstListFault, IsFirstInstanceFault, Parts, Rise, IsPlace, IsPrice, ArePricesOrNone, ArePricesUpTo, IsPublicText, IsRoundParts, Row, line, lines_of, section_lines, sections, priced, price_section, pair_row, pair_rows, aim_rows, supervisor_row, project_row, student_row, BeginsLines, IsDraft, IsWhole, AreFirst}
use Rattle.spa.specs.declared.fault.Roll.TheVariants.{Supervisors, Projects, Students}
use Rattle.spa.specs.declared.fault.InstanceFault.{InstanceFault}
use Rattle.spa.specs.declared.fault.InstanceFault.TheVariants.{Memory, Limit, RepeatedCode, UnknownSupervisor, ListLength, UnknownProject, RepeatedProject}
use Rattle.intake.proofs.PairLine.{rise_apart, all_found}
use Rattle.intake.proofs.Pieces.{line_of}
use Rattle.intake.proofs.Prices.{all_filled, filled, filled_prices, filled_same, first_prices}
use Rattle.intake.proofs.Sections.{full, full_lines}
use Rattle.intake.proofs.Where.{blank_after, first_few}

-- with none for the rest there is a place or none for each
places_all : (es : List Student) (ks : List (Option ℕ)) (n : ℕ) → length es ≡ length ks + n → AreFirst IsPlace es ks → AllZip IsPlace es (ks ++ replicate n None)
places_all [] [] zero e h = tt
places_all [] [] (suc n) e h = absurd (omega arith)
places_all [] (k ∷ ks) n e h = absurd h
places_all (x ∷ es) [] zero e h = absurd (omega arith)
places_all (x ∷ es) [] (suc n) e h = (tt, places_all es [] n (omega arith) tt)
places_all (x ∷ es) (k ∷ ks) n e h = (h.0, places_all es ks n (omega arith) h.1)

-- parts with a place or none for each student
abbrev pub placed : Parts → Parts
placed p = record p { places = p.places ++ replicate (length p.instance.students - length p.places) None }

-- they have the same lines
pub placed_lines : (p : Parts) → lines_of Round (placed p) ≡ lines_of Round p
placed_lines p = ap (λ (l : List Row). map (line (codes "A")) (aim_rows p.aim) ++ (map (line (codes "S")) (map supervisor_row p.instance.supervisors) ++ (map (line (codes "P")) (map project_row p.instance.projects) ++ (map (line (codes "C")) (map student_row p.instance.students) ++ (map (line (codes "M")) l ++ flat_map section_lines (map (price_section Round) (priced p)))))))
    (blank_after pair_row None (λ e. refl) p.instance.students p.places (length p.instance.students - length p.places))

-- prices of a roll, filled, by its entries
by_entries : {X : Type 0} (key : X → List ℕ) (es : List X) (vs : List (List ℤ)) → AreFirst (λ c. IsPrice) (map key es) vs → ArePricesOrNone (length es) (filled (length (map key es)) vs)
by_entries key es vs a = subst (λ (n : ℕ). ArePricesOrNone n (filled (length (map key es)) vs)) (length-map es key) (filled_prices (length (map key es)) vs (first_prices (map key es) vs a))

-- parts in which each roll that has prices has one for each entry
abbrev filled_parts : Parts → Parts
filled_parts p = record p {
  student_prices = filled (length (student_codes p.instance)) p.student_prices;
  project_prices = filled (length (project_codes p.instance)) p.project_prices;
  supervisor_prices = filled (length (supervisor_codes p.instance)) p.supervisor_prices;
}

-- those of a draft are the parts of a text
filled_draft : (p : Parts) → IsDraft Round p → IsRoundParts (placed (filled_parts p))
filled_draft p d = record {
  instance = d.instance;
  places = (let few = first_few IsPlace p.instance.students p.places d.places in places_all p.instance.students p.places (length p.instance.students - length p.places) (omega arith) d.places);
  student_prices = by_entries (λ (e : Student). e.code) p.instance.students p.student_prices d.prices.0;
  project_prices = by_entries (λ (e : Project). e.code) p.instance.projects p.project_prices d.prices.2.0;
  supervisor_prices = by_entries (λ (e : Supervisor). e.code) p.instance.supervisors p.supervisor_prices d.prices.2.2.0;
}

-- a draft that may end is the parts of its text
pub whole_parts : (p : Parts) → IsDraft Round p → IsWhole Round p → IsRoundParts (placed p)
whole_parts p d w = subst (λ (q : Parts). IsRoundParts (placed q)) same (filled_draft p d)
  where
    same : filled_parts p ≡ p
    same = rw (filled_same (length (student_codes p.instance)) p.student_prices w.0, filled_same (length (project_codes p.instance)) p.project_prices w.1.0, filled_same (length (supervisor_codes p.instance)) p.supervisor_prices w.1.1.0) refl

-- a draft of a result is the parts of its text
pub public_draft : (p : Parts) → IsDraft Public p → IsPublicText p
public_draft p d = record {
  instance = d.instance;
  places = d.bare.0;
  student_prices = d.bare.1;
  project_prices = subst (λ (n : ℕ). ArePricesUpTo n p.project_prices) (length-map p.instance.projects (λ (e : Project). e.code)) (first_prices (project_codes p.instance) p.project_prices d.prices.2.0);
  supervisor_prices = subst (λ (n : ℕ). ArePricesUpTo n p.supervisor_prices) (length-map p.instance.supervisors (λ (e : Supervisor). e.code)) (first_prices (supervisor_codes p.instance) p.supervisor_prices d.prices.2.2.0);
}

-- no code is the first that stands before it too
not_repeated : (codes : List (List ℕ)) (n : ℕ) → Rise codes → IsFirstRepeated codes n → ⊥
not_repeated codes n rise r = rise_apart codes rise r.earlier n r.is_before r.known r.same

-- of what all have no element is the first without
not_unknown : (known names : List (List ℕ)) (n : ℕ) → All (λ c. Contains known c) names → IsFirstUnknown known names n → ⊥
not_unknown known names n all u = u.unknown (all_found (λ c. Contains known c) names n u.code all u.here)

-- the lists of a draft have no fault but out of memory
list_fault : (p : Parts) (fault : InstanceFault) → IsDraft Round p → IsFirstListFault (project_codes p.instance) (map (λ e. e.list) p.instance.students) fault → fault ≡ Memory
list_fault p fault d f =
    let sound : IsListOf Round (project_codes p.instance) f.list = all_found (IsListOf Round (project_codes p.instance)) (map (λ e. e.list) p.instance.students) f.student f.list
    (All-map (IsListOf Round (project_codes p.instance)) (λ e. e.list) p.instance.students d.instance.listed) f.here in
    go fault f.student f.list f.is_fault sound
  where
    go : (fault : InstanceFault) (s : ℕ) (list : List (List ℕ)) → IsListFault (project_codes p.instance) list s fault → IsListOf Round (project_codes p.instance) list → fault ≡ Memory
    go Memory s list h sound = refl
    go Limit s list h sound = absurd h
    go (RepeatedCode roll n) s list h sound = absurd h
    go (UnknownSupervisor n) s list h sound = absurd h
    go (ListLength n) s list h sound = (let few = sound.0 in absurd (h.1 (omega arith, few.1)))
    go (UnknownProject n zero) s list h sound = absurd h
    go (UnknownProject n (suc k)) s list h sound = absurd (h.3.unknown (sound.1.known k h.3.code (slice_get_within list k h.3.code h.3.here) h.3.here))
    go (RepeatedProject n zero) s list h sound = absurd h
    go (RepeatedProject n (suc k)) s list h sound = absurd (sound.1.apart h.3.earlier k h.3.is_before h.3.known h.3.same)

-- the rolls of a draft have no fault but out of memory
pub no_fault : (p : Parts) (fault : InstanceFault) → IsDraft Round p → IsFirstInstanceFault p.instance fault → fault ≡ Memory
no_fault p Memory d h = refl
no_fault p Limit d h = absurd (h d.instance.within)
no_fault p (RepeatedCode Supervisors n) d h = absurd (not_repeated (supervisor_codes p.instance) n d.instance.supervisors.rise h.1)
no_fault p (RepeatedCode Projects n) d h = absurd (not_repeated (project_codes p.instance) n d.instance.projects.rise h.1.1)
no_fault p (RepeatedCode Students n) d h = absurd (not_repeated (student_codes p.instance) n d.instance.students.rise h.1.2)
no_fault p (UnknownSupervisor n) d h = absurd (not_unknown (supervisor_codes p.instance) (map (λ e. e.supervisor) p.instance.projects) n (All-map (λ c. Contains (supervisor_codes p.instance) c) (λ e. e.supervisor) p.instance.projects d.instance.offered) h.2)
no_fault p (ListLength n) d h = list_fault p (ListLength n) d h.3
no_fault p (UnknownProject n k) d h = list_fault p (UnknownProject n k) d h.3
no_fault p (RepeatedProject n k) d h = list_fault p (RepeatedProject n k) d h.3

-- parts of the same aim, instance, places and prices
pub same_parts : (a b : Aim) (i j : Instance) (ks ls : List (Option ℕ)) (u v y x z w : List (List ℤ)) → a ≡ b → i ≡ j → ks ≡ ls → u ≡ v → y ≡ x → z ≡ w
    → (let p : Parts = record { aim = a; instance = i; places = ks; student_prices = u; project_prices = y; supervisor_prices = z } in p) ≡ record { aim = b; instance = j; places = ls; student_prices = v; project_prices = x; supervisor_prices = w }
same_parts a b i j ks ls u v y x z w p q r s t o = rw (p, q, r, s, t, o) refl

-- lines after those of five sections
after_five : (a b c d e t more : List Row) → a ++ (b ++ (c ++ (d ++ (e ++ (t ++ more))))) ≡ (a ++ (b ++ (c ++ (d ++ (e ++ t))))) ++ more
after_five a b c d e t more = simp append_assoc

-- the lines of a draft begin a text
pub draft_begins : (k : Kind) (p : Parts) → IsDraft k p → BeginsLines k (lines_of k p)
draft_begins Public p d = (p, [], public_draft p d, sym (append-nil (lines_of Public p)))
draft_begins Round p d =
    let i : Instance = p.instance in
    let m = all_filled (priced p) d.prices in
    let a : List Row = map (λ r. codes "A" ∷ r) (aim_rows p.aim) in
    let s : List Row = map (λ r. codes "S" ∷ r) (map supervisor_row i.supervisors) in
    let b : List Row = map (λ r. codes "P" ∷ r) (map project_row i.projects) in
    let c : List Row = map (λ r. codes "C" ∷ r) (map student_row i.students) in
    let e : List Row = map (λ r. codes "M" ∷ r) (pair_rows i.students p.places) in
    let rows : full (sections Round (filled_parts p)) ≡ full (sections Round p) ++ m.0 = ap (λ (l : List Row). a ++ (s ++ (b ++ (c ++ (e ++ l))))) m.1 ∙ after_five a s b c e (full (map (price_section Round) (priced p))) m.0 in
    let lines = full_lines (sections Round (filled_parts p)) ∙ ap (map line_of) rows ∙ map-append line_of (full (sections Round p)) m.0 ∙ ap (λ (l : List (List ℕ)). l ++ map line_of m.0) (sym (full_lines (sections Round p))) in
    (placed (filled_parts p), map line_of m.0, filled_draft p d, placed_lines (filled_parts p) ∙ lines)
