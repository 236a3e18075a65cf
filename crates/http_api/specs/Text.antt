-- The text of an answer.
use Rattle.std.specs.Prelude.{ℕ, List, [], ◌∷◌, ◌++◌, length, codes, decimal, unwrap_or}
use Rattle.http.specs.StatusCode.{reason_phrase}

-- the end of a line
abbrev pub crlf : List ℕ
crlf = 13 ∷ 10 ∷ []

-- the standard reason phrase of a status
unfoldable pub reason_of : ℕ → List ℕ
reason_of status = unwrap_or (reason_phrase status) []

-- the first line of an answer
abbrev pub status_line : ℕ → List ℕ
status_line status = codes "HTTP/1.1 " ++ decimal status ++ codes " " ++ reason_of status ++ crlf

-- the fields of an answer whose body is of a type and has this many bytes, and the empty line
abbrev pub fields : List ℕ → ℕ → List ℕ
fields type n = codes "Content-Type: " ++ type ++ codes "\r\nContent-Length: " ++ decimal n ++ codes "\r\n\r\n"

-- what comes before the body of an answer, of a type and this many bytes
abbrev pub answer_head : ℕ → List ℕ → ℕ → List ℕ
answer_head status type n = status_line status ++ fields type n

-- the type of a body in JSON
abbrev pub json_type : List ℕ
json_type = codes "application/json"

-- the type of a body that is a text
abbrev pub text_type : List ℕ
text_type = codes "text/plain; charset=utf-8"

-- an answer whose body is of a type
abbrev pub typed_answer : ℕ → List ℕ → List ℕ → List ℕ
typed_answer status type body = answer_head status type (length body) ++ body

-- an answer in JSON
abbrev pub json_answer : ℕ → List ℕ → List ℕ
json_answer status body = typed_answer status json_type body

-- the body of a refusal with this name and number
abbrev pub fault_body : List ℕ → ℕ → List ℕ
fault_body name number = codes "{\"fault\":\"" ++ name ++ codes "\",\"number\":" ++ decimal number ++ codes "}"

-- the answer of a refusal
abbrev pub fault_answer : ℕ → List ℕ → ℕ → List ℕ
fault_answer status name number = json_answer status (fault_body name number)
