use Rattle.std.proofs.Common.{◌≡◌, ◌∙◌, ◌||◌, ℕ, List, [], ◌∷◌, map, Bool, false, Option, None, Some, IfOk, ap, refl, sym, subst}
use Rattle.http_api.proofs.Common.{string, items_of, has_float, items_have_float, answer_bytes, text_type, typed_answer, list_data, placed_data, reply_text, student_data}
use Rattle.office_model.specs.declared.rounds.Placement.{Placement}
use Rattle.office_model.specs.declared.request.Reply.{Reply}
use Rattle.http_api.proofs.texts.reply_answer.Goals as goal

-- a student in JSON has no float, for texts have none
items_plain : (cs : List (List ℕ)) → items_have_float (items_of (map string cs)) ≡ false
items_plain [] = refl
items_plain (c ∷ cs) = items_plain cs

list_plain : (list : Option (List (List ℕ))) → has_float (list_data list) ≡ false
list_plain None = refl
list_plain (Some cs) = items_plain cs

placed_plain : (placed : Option Placement) → has_float (placed_data placed) ≡ false
placed_plain None = refl
placed_plain (Some p) = refl

student_plain : (name : List ℕ) (list : Option (List (List ℕ))) (placed : Option Placement) → has_float (student_data name list placed) ≡ false
student_plain name list placed =
    ap (λ (b : Bool). b || (false || (has_float (placed_data placed) || false))) (list_plain list) ∙ ap (λ (b : Bool). b || false) (placed_plain placed)

pub value_answer-requires-in-Student : goal.value_answer-requires-in-Student
value_answer-requires-in-Student c = ap has_float c.in_ok-value-in-Student.ensures ∙ student_plain c.in-Student.name c.in-Student.list c.in-Student.placed

pub returns-in-Text-clause-text : goal.returns-in-Text-clause-text
unfolding lib.Utf8.encode
returns-in-Text-clause-text c =
    subst (λ (r : Reply). IfOk c.with_head.result (λ answer. answer_bytes answer ≡ reply_text r)) (sym c.in-Text.is)
    (subst (λ (body : List ℕ). IfOk c.with_head.result (λ answer. answer_bytes answer ≡ typed_answer 200 text_type body)) c.as_str-in-Text.ensures c.with_head.ensures)
