-- The text of an answer.
use Rattle.std.specs.Prelude.{ℕ, Bool, true, false, List, ◌++◌, map, Option, Some, None, Result, Ok, Err, codes, decimal}
use Rattle.serde_json.specs.Data.{Data, null, number, unsigned, string, array, object, member, no_members}
use Rattle.serde_json.specs.View.{items_of}
use Rattle.serde_json.specs.Written.{items_text, compact_text}
use Rattle.spa.specs.Aims.{aim_word}
use Rattle.spa.specs.declared.aim.Aim.{Aim}
use Rattle.office_model.specs.declared.refusal.Refusal.{Refusal}
use Rattle.office_model.specs.declared.refusal.Refusal.TheVariants as no
use Rattle.office_model.specs.declared.request.Reply.{Reply}
use Rattle.office_model.specs.declared.request.Reply.TheVariants as reply
use Rattle.office_model.specs.declared.rounds.Placement.{Placement}
use Rattle.office_model.specs.RefusalInfo.{number_of, status_of, name_of}
use Rattle.http_api.specs.Text.{text_type, typed_answer, json_answer, fault_answer}

-- a refused record in JSON
abbrev pub row_text : ℕ → ℕ → List ℕ
row_text n inner = codes "{\"fault\":\"Row\",\"inner\":" ++ decimal inner ++ codes ",\"number\":29,\"record\":" ++ decimal n ++ codes "}"

-- the answer of a refusal; that of a record names the record too
abbrev pub refusal_text : Refusal → List ℕ
refusal_text (no.Row n inner) = json_answer (status_of (no.Row n inner)) (row_text n inner)
refusal_text refusal = fault_answer (status_of refusal) (name_of refusal) (number_of refusal)

-- a supervisor in JSON
abbrev pub supervisor_data : List ℕ → ℕ → ℕ → Data
supervisor_data name placed quota =
    object (member (codes "name") (string name)
    (member (codes "placed") (number (unsigned placed))
    (member (codes "quota") (number (unsigned quota)) no_members)))

-- a project in JSON
abbrev pub project_data : List ℕ → ℕ → ℕ → List ℕ → Data
project_data name placed quota supervisor =
    object (member (codes "name") (string name)
    (member (codes "placed") (number (unsigned placed))
    (member (codes "quota") (number (unsigned quota))
    (member (codes "supervisor") (string supervisor) no_members))))

-- a student's list in JSON
abbrev pub list_data : Option (List (List ℕ)) → Data
list_data None = null
list_data (Some choices) = array (items_of (map string choices))

-- a student's placement in JSON
abbrev pub placed_data : Option Placement → Data
placed_data None = null
placed_data (Some placement) =
    object (member (codes "project") (string placement.project)
    (member (codes "rank") (number (unsigned placement.rank))
    (member (codes "round") (number (unsigned placement.round)) no_members)))

-- a student in JSON
abbrev pub student_data : List ℕ → Option (List (List ℕ)) → Option Placement → Data
student_data name choices placement =
    object (member (codes "list") (list_data choices)
    (member (codes "name") (string name)
    (member (codes "placed") (placed_data placement) no_members)))

-- numbers in JSON, up to the bracket that closes them
abbrev pub numbers_text : List ℕ → List ℕ
numbers_text ns = items_text false (items_of (map (λ n. number (unsigned n)) ns))

-- a truth in JSON
abbrev pub truth_text : Bool → List ℕ
truth_text true = codes "true"
truth_text false = codes "false"

-- a change in JSON
abbrev pub done_text : List ℕ
done_text = codes "{\"ok\":true}"

-- an opened round in JSON
abbrev pub opened_text : ℕ → List ℕ
opened_text round = codes "{\"round\":" ++ decimal round ++ codes "}"

-- a round in JSON
abbrev pub round_json : ℕ → Aim → Bool → ℕ → List ℕ → ℕ → List ℕ
round_json round aim is_open placed profile students =
    codes "{\"aim\":\"" ++ aim_word aim ++ codes "\",\"open\":" ++ truth_text is_open ++ codes ",\"placed\":" ++ decimal placed ++ codes ",\"profile\":[" ++ numbers_text profile
    ++ codes ",\"round\":" ++ decimal round ++ codes ",\"students\":" ++ decimal students ++ codes "}"

-- a closed round in JSON
abbrev pub closed_text : ℕ → ℕ → List ℕ → List ℕ
closed_text round size profile =
    codes "{\"profile\":[" ++ numbers_text profile ++ codes ",\"round\":" ++ decimal round ++ codes ",\"size\":" ++ decimal size ++ codes "}"

-- a preview in JSON
abbrev pub preview_text : ℕ → List ℕ → List ℕ
preview_text size profile = codes "{\"profile\":[" ++ numbers_text profile ++ codes ",\"size\":" ++ decimal size ++ codes "}"

-- an import in JSON
abbrev pub rows_text : ℕ → List ℕ
rows_text rows = codes "{\"rows\":" ++ decimal rows ++ codes "}"

-- the answer of success
abbrev pub reply_text : Reply → List ℕ
reply_text reply.Done = json_answer 200 done_text
reply_text (reply.Supervisor name placed quota) = json_answer 200 (compact_text (supervisor_data name placed quota))
reply_text (reply.Project name placed quota supervisor) = json_answer 200 (compact_text (project_data name placed quota supervisor))
reply_text (reply.Student name choices placement) = json_answer 200 (compact_text (student_data name choices placement))
reply_text (reply.Opened round) = json_answer 200 (opened_text round)
reply_text (reply.Round round aim is_open placed profile students) = json_answer 200 (round_json round aim is_open placed profile students)
reply_text (reply.Closed round size profile) = json_answer 200 (closed_text round size profile)
reply_text (reply.Preview size profile) = json_answer 200 (preview_text size profile)
reply_text (reply.Text text) = typed_answer 200 text_type text
reply_text (reply.Rows rows) = json_answer 200 (rows_text rows)

-- the text of an answer
abbrev pub text_of : Result Reply Refusal → List ℕ
text_of (Ok reply) = reply_text reply
text_of (Err refusal) = refusal_text refusal

-- an answer of success that has texts of the office in it
abbrev pub IsRead : Result Reply Refusal → Type 0
IsRead (Ok reply.Done) = ⊥
IsRead (Ok (reply.Supervisor name placed quota)) = Unit {0}
IsRead (Ok (reply.Project name placed quota supervisor)) = Unit {0}
IsRead (Ok (reply.Student name choices placement)) = Unit {0}
IsRead (Ok (reply.Opened round)) = ⊥
IsRead (Ok (reply.Round round aim is_open placed profile students)) = ⊥
IsRead (Ok (reply.Closed round size profile)) = ⊥
IsRead (Ok (reply.Preview size profile)) = ⊥
IsRead (Ok (reply.Text text)) = Unit {0}
IsRead (Ok (reply.Rows rows)) = ⊥
IsRead (Err refusal) = ⊥
