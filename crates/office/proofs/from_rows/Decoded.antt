-- What a row decodes to: an entry whose row it is, and which has the form. An entry of the form is what its row decodes to.
use Rattle.office.proofs.from_rows.Common.{◌&&◌, IsTrue, first_so, second_so, option_map, bytes_eq, and_from, nat_tests, MAX_QUOTA, is_code, is_label, Text, Number, Bytes, Cells, Round, SupervisorFits, StudentFits, ImportFits, is_generous, supervisor_cells, project_cells, student_cells, round_cells, aim_cells, placement_cells, import_cells, same_bytes, where_so, flag_in, aim_of, kind_in, supervisor_in, project_in, student_in, round_in, aim_in, placement_in, import_in, import_of, ◌≡◌, ℕ, ◌≤◌, Bool, true, false, cond, List, [], ◌∷◌, Option, Some, None, refl, sym, ap, subst, ◌∙◌, arith, SupervisorEntry as Supervisor, ProjectEntry as Project, StudentEntry as Student, PlacementEntry as Placement, AimEntry as RoundAim, ImportEntry as Import, ◌==◌}
use Rattle.spa.specs.declared.aim.Aim.{Aim}
use Rattle.spa.specs.declared.aim.Aim.TheVariants.{Greedy, Generous}
use Rattle.office_model.specs.declared.import.ImportKind.{ImportKind}
use Rattle.office_model.specs.declared.import.ImportKind.TheVariants.{Supervisors, Projects, Students, Lists}
use Rattle.office_model.specs.Kinds.{word_of}
use Rattle.office.proofs.from_rows.Tests.{at_most, within}

-- an entry whose row this is, of a form
pub record IsDecoded {E : Type 0} (cells : E → Cells) (Form : E → Type 0) (row : Cells) (e : E) : Type 0 where
  pub is : cells e ≡ row
  pub form : Form e

-- a project with a code, a label and a quota within the limit, whoever offers it
abbrev pub ProjectForm : Project → Type 0
ProjectForm p = record {
  code : IsTrue (is_code p.code);
  label : IsTrue (is_label p.label);
  supervisor : IsTrue (is_code p.supervisor);
  quota : p.quota ≤ MAX_QUOTA;
}

-- a placement of a code at a code
abbrev pub PlacementForm : Placement → Type 0
PlacementForm p = IsTrue (is_code p.student && is_code p.project)

-- a round without lists
abbrev pub IsBare : Round → Type 0
IsBare r = r.lists ≡ []

-- any aim
abbrev pub AimForm : RoundAim → Type 0
AimForm a = Unit

-- ---- truth values, aims and kinds

-- what goes before an answer that is there
mapped : {A B : Type 0} (f : A → B) (x : Option A) (y : B) → option_map f x ≡ Some y → (a : A) × ((x ≡ Some a) × (f a ≡ y))
mapped f None y h = cc
mapped f (Some a) y h = (a, (refl, cc))

flag_decoded : (k : ℕ) (b : Bool) → flag_in k ≡ Some b → cond b 1 0 ≡ k
flag_decoded k b h = by (k == 0) (k == 1) refl refl h
  where
    by : (zero one : Bool) → (k == 0) ≡ zero → (k == 1) ≡ one → cond zero (Some false) (cond one (Some true) None) ≡ Some b → cond b 1 0 ≡ k
    by true one z o h = let is : false ≡ b = cc in ap (λ b. cond b 1 0) (sym is) ∙ grind (arith, nat_tests, z)
    by false true z o h = let is : true ≡ b = cc in ap (λ b. cond b 1 0) (sym is) ∙ grind (arith, nat_tests, o)
    by false false z o h = cc

flag_read : (b : Bool) → flag_in (cond b 1 0) ≡ Some b
flag_read true = refl
flag_read false = refl

aim_decoded : (b : Bool) → is_generous (aim_of b) ≡ b
aim_decoded true = refl
aim_decoded false = refl

aim_back : (aim : Aim) → aim_of (is_generous aim) ≡ aim
aim_back Greedy = refl
aim_back Generous = refl

kind_decoded : (word : List ℕ) (k : ImportKind) → kind_in word ≡ Some k → word_of k ≡ word
kind_decoded word k h = else Supervisors _ (else Projects _ (else Students _ (else Lists None (λ h. cc)))) h
  where
    else : (kind : ImportKind) (rest : Option ImportKind) → (rest ≡ Some k → word_of k ≡ word) → cond (bytes_eq word (word_of kind)) (Some kind) rest ≡ Some k → word_of k ≡ word
    else kind rest other = by (bytes_eq word (word_of kind)) refl
      where
        by : (b : Bool) → bytes_eq word (word_of kind) ≡ b → cond b (Some kind) rest ≡ Some k → word_of k ≡ word
        by true is h = let same : kind ≡ k = cc in ap word_of (sym same) ∙ sym (same_bytes word (word_of kind) is)
        by false is h = other h

kind_read : (k : ImportKind) → kind_in (word_of k) ≡ Some k
kind_read Supervisors = refl
kind_read _ = refl

-- ---- entries

-- an entry that is there where it has the form
decoded_where : {E : Type 0} (cells : E → Cells) (Form : E → Type 0) (row : Cells) (b : Bool) (x e : E) → where_so b x ≡ Some e → cells x ≡ row → (b ≡ true → Form x) → IsDecoded cells Form row e
decoded_where cells Form row true x e h is form = let same : x ≡ e = cc in subst (IsDecoded cells Form row) same (record { is = is; form = form refl })
decoded_where cells Form row false x e h is form = cc

pub supervisor_decoded : (row : Cells) (e : Supervisor) → supervisor_in row ≡ Some e → IsDecoded supervisor_cells SupervisorFits row e
supervisor_decoded (Text code ∷ Text label ∷ Number quota ∷ []) e h =
    decoded_where supervisor_cells SupervisorFits _ _ _ e h refl (λ so. record { code = first_so _ _ so; label = first_so _ _ (second_so _ _ so); quota = at_most _ _ (second_so _ _ (second_so _ _ so)) })
supervisor_decoded _ e h = cc

pub supervisor_read : (e : Supervisor) → SupervisorFits e → supervisor_in (supervisor_cells e) ≡ Some e
supervisor_read e fits = ap (λ b. where_so b e) (and_from _ _ fits.code (and_from _ _ fits.label (within _ _ fits.quota)))

pub project_decoded : (row : Cells) (e : Project) → project_in row ≡ Some e → IsDecoded project_cells ProjectForm row e
project_decoded (Text code ∷ Text label ∷ Text supervisor ∷ Number quota ∷ []) e h =
    decoded_where project_cells ProjectForm _ _ _ e h refl (λ so. (let rest = second_so _ _ (second_so _ _ so) in record {
      code = first_so _ _ so;
      label = first_so _ _ (second_so _ _ so);
      supervisor = first_so _ _ rest;
      quota = at_most _ _ (second_so _ _ rest);
    }))
project_decoded _ e h = cc

pub project_read : (e : Project) → ProjectForm e → project_in (project_cells e) ≡ Some e
project_read e fits = ap (λ b. where_so b e) (and_from _ _ fits.code (and_from _ _ fits.label (and_from _ _ fits.supervisor (within _ _ fits.quota))))

pub student_decoded : (row : Cells) (e : Student) → student_in row ≡ Some e → IsDecoded student_cells StudentFits row e
student_decoded (Text code ∷ Text label ∷ []) e h = decoded_where student_cells StudentFits _ _ _ e h refl (λ so. record { code = first_so _ _ so; label = second_so _ _ so })
student_decoded _ e h = cc

pub student_read : (e : Student) → StudentFits e → student_in (student_cells e) ≡ Some e
student_read e fits = ap (λ b. where_so b e) (and_from _ _ fits.code fits.label)

pub round_decoded : (row : Cells) (e : Round) → round_in row ≡ Some e → IsDecoded round_cells IsBare row e
round_decoded (Number number ∷ Number k ∷ []) e h =
    let is = mapped _ (flag_in k) e h in
    subst (IsDecoded round_cells IsBare (Number number ∷ Number k ∷ [])) is.1.1 (record { is = ap (λ k. Number number ∷ Number k ∷ []) (flag_decoded k is.0 is.1.0); form = refl })
round_decoded _ e h = cc

pub round_read : (e : Round) → round_in (round_cells e) ≡ Some (record e { lists = [] })
round_read e = ap (option_map (λ is_open. record { number = e.number; is_open = is_open; lists = [] })) (flag_read e.is_open)

pub round_aim_decoded : (row : Cells) (e : RoundAim) → aim_in row ≡ Some e → IsDecoded aim_cells AimForm row e
round_aim_decoded (Number round ∷ Number k ∷ []) e h =
    let is = mapped _ (flag_in k) e h in
    let number : cond (is_generous (aim_of is.0)) 1 0 ≡ k = ap (λ b. cond b 1 0) (aim_decoded is.0) ∙ flag_decoded k is.0 is.1.0 in
    subst (IsDecoded aim_cells AimForm (Number round ∷ Number k ∷ [])) is.1.1 (record { is = ap (λ k. Number round ∷ Number k ∷ []) number; form = tt })
round_aim_decoded _ e h = cc

pub round_aim_read : (e : RoundAim) → aim_in (aim_cells e) ≡ Some e
round_aim_read e =
    ap (option_map (λ generous. record { round = e.round; aim = aim_of generous })) (flag_read (is_generous e.aim)) ∙ ap (λ aim. Some (record { round = e.round; aim = aim })) (aim_back e.aim)

pub placement_decoded : (row : Cells) (e : Placement) → placement_in row ≡ Some e → IsDecoded placement_cells PlacementForm row e
placement_decoded (Text student ∷ Number round ∷ Text project ∷ Number rank ∷ []) e h = decoded_where placement_cells PlacementForm _ _ _ e h refl (λ so. so)
placement_decoded _ e h = cc

pub placement_read : (e : Placement) → PlacementForm e → placement_in (placement_cells e) ≡ Some e
placement_read e form = ap (λ b. where_so b e) form

import_of_kind : (id word bytes : List ℕ) (rows : ℕ) (e : Import) (x : Option ImportKind) → kind_in word ≡ x → import_of id bytes rows x ≡ Some e → IsDecoded import_cells ImportFits (Text id ∷ Text word ∷ Bytes bytes ∷ Number rows ∷ []) e
import_of_kind id word bytes rows e None is h = cc
import_of_kind id word bytes rows e (Some kind) is h =
    decoded_where import_cells ImportFits _ _ _ e h (ap (λ word. Text id ∷ Text word ∷ Bytes bytes ∷ Number rows ∷ []) (kind_decoded word kind is))
    (λ so. record { id = first_so _ _ so; bytes = at_most _ _ (first_so _ _ (second_so _ _ so)); rows = at_most _ _ (second_so _ _ (second_so _ _ so)) })

pub import_decoded : (row : Cells) (e : Import) → import_in row ≡ Some e → IsDecoded import_cells ImportFits row e
import_decoded (Text id ∷ Text word ∷ Bytes bytes ∷ Number rows ∷ []) e h = import_of_kind id word bytes rows e (kind_in word) refl h
import_decoded _ e h = cc

pub import_read : (e : Import) → ImportFits e → import_in (import_cells e) ≡ Some e
import_read e fits = ap (import_of e.id e.bytes e.rows) (kind_read e.kind) ∙ ap (λ b. where_so b e) (and_from _ _ fits.id (and_from _ _ (within _ _ fits.bytes) (within _ _ fits.rows)))
