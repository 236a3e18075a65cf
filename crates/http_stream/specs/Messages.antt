-- The messages of a byte stream, and its end.
use Rattle.std.specs.Prelude.{◌≡◌, ℕ, ◌+◌, ◌<◌, ◌≤◌, ◌⊎◌, Bool, false, ◌&&◌, ◌||◌, not, ◌==◌, nat_lt, if◌then◌else◌, List, [], ◌∷◌, ◌++◌, length, take, map, IsTrue, codes}
use Rattle.std.specs.List.{list_all, list_any}
use Rattle.std.specs.Char.{is_ascii_digit}
use Rattle.std.specs.Str.{str_eq_ignore_ascii_case}
use Rattle.std.specs.Str.Parse.{digits_value}
use Rattle.httparse.specs.Grammar.{RequestHead, print_request, ReadsRequest, HasNoRequest}
use Rattle.httparse.specs.Spans.{name_and_value}
use Rattle.http_stream.specs.declared.TheConstants.{MAX_HEAD_BYTES, MAX_FIELDS, MAX_BODY_BYTES, MAX_MESSAGES}
use Rattle.http_stream.specs.declared.outcome.End.{End}
use Rattle.http_stream.specs.declared.fields.Framing.{Framing}
use Rattle.http_stream.specs.declared.fields.Framing.TheVariants.{Length, Wrong, Long}
use Rattle.http_stream.specs.declared.outcome.End.TheVariants.{Closed, Unfinished, BadHead, TooLarge, Hundred}

-- a message: its head, and its body
pub record Message : Type 0 where
  pub head : RequestHead
  pub body : List ℕ

-- whether a field, a name and a value, has this name, where the case of ASCII letters does not count
abbrev pub is_named : List ℕ → List ℕ × List ℕ → Bool
is_named name field = str_eq_ignore_ascii_case field.0 name

-- the values of the fields `Content-Length`
abbrev pub lengths : List (List ℕ × List ℕ) → List (List ℕ)
lengths [] = []
lengths (field ∷ fields) =
    if is_named (codes "content-length") field then field.1 ∷ lengths fields else lengths fields

-- one or more digits
abbrev pub is_number : List ℕ → Bool
is_number value = nat_lt 0 (length value) && list_all is_ascii_digit value

-- the number that a value gives, up to the greatest body
abbrev pub length_of : List ℕ → Framing
length_of value =
    if is_number value
    then (if nat_lt MAX_BODY_BYTES (digits_value 10 value) then Long else Length (digits_value 10 value))
    else Wrong

-- no field gives 0, and two are one too many
abbrev pub framing_by : List (List ℕ) → Framing
framing_by [] = Length 0
framing_by (value ∷ []) = length_of value
framing_by (value ∷ other ∷ values) = Wrong

-- no more fields than are served, version 1.1, no coding but the plain one, and at most one length
abbrev pub framing_of : ℕ → List (List ℕ × List ℕ) → Framing
framing_of minor fields =
    if nat_lt MAX_FIELDS (length fields) then Long
    else if not (minor == 1) then Wrong
    else if list_any (is_named (codes "transfer-encoding")) fields then Wrong
    else framing_by (lengths fields)

-- what a head says of its body
abbrev pub framing : RequestHead → Framing
framing h = framing_of h.minor (map name_and_value h.fields)

-- the bytes in which a head stands
abbrev pub window : List ℕ → List ℕ
window rest = take MAX_HEAD_BYTES rest

-- the head stands at the front of the rest of a stream
abbrev pub HeadAt : List ℕ → RequestHead → Type 0
HeadAt rest h = (after : List ℕ) × ReadsRequest (window rest) h after

-- an LF after a byte that is neither CR nor LF; `begun` says that there was such a byte
abbrev pub has_line : Bool → List ℕ → Bool
has_line begun [] = false
has_line begun (b ∷ bytes) =
    if b == 10 then begun || has_line begun bytes else has_line (begun || not (b == 13)) bytes

-- whatever bytes follow, these do not become a head
abbrev pub NeverBecomes : List ℕ → Type 0
NeverBecomes bytes = (more : List ℕ) (h : RequestHead) → ReadsRequest (bytes ++ more) h [] → ⊥

-- a line has come, and no head can
abbrev pub IsMalformed : List ℕ → Type 0
IsMalformed bytes = IsTrue (has_line false bytes) × NeverBecomes bytes

-- a head stands there, of which this is said
abbrev pub HeadFramed : List ℕ → Framing → Type 0
HeadFramed rest f = (h : RequestHead) × HeadAt rest h × (framing h ≡ f)

-- a head stands there, and its body is cut short
abbrev pub BodyCut : List ℕ → Type 0
BodyCut rest =
    (h : RequestHead) × HeadAt rest h × (n : ℕ) × (framing h ≡ Length n)
    × (length rest < length (print_request h) + n)

-- no head stands there, and none is ruled out
pub record IsOpen (rest : List ℕ) : Type 0 where
  pub headless : HasNoRequest (window rest)
  pub well_formed : IsMalformed (window rest) → ⊥

-- the rest begins with the message, and then comes after
pub record BeginsWith (rest : List ℕ) (m : Message) (after : List ℕ) : Type 0 where
  pub head : HeadAt rest m.head
  pub framed : framing m.head ≡ Length (length m.body)
  pub whole : rest ≡ print_request m.head ++ m.body ++ after

-- the rest begins with no message, for this reason
abbrev pub Stops : List ℕ → End → Type 0
Stops rest BadHead =
    HeadFramed rest Wrong ⊎ (HasNoRequest (window rest) × IsMalformed (window rest))
Stops rest TooLarge = HeadFramed rest Long ⊎ (IsOpen rest × (MAX_HEAD_BYTES ≤ length rest))
Stops rest Closed = rest ≡ []
Stops rest Unfinished =
    BodyCut rest ⊎ (IsOpen rest × (length rest < MAX_HEAD_BYTES) × (0 < length rest))
Stops rest Hundred = ⊥

-- no whole message stands there, and what there is may become one
abbrev pub IsCut : List ℕ → Type 0
IsCut rest = 0 < length rest → Stops rest Unfinished

-- the bytes are these messages, and then the rest
abbrev pub Splits : List ℕ → List Message → List ℕ → Type 0
Splits bytes [] rest = bytes ≡ rest
Splits bytes (m ∷ messages) rest = (after : List ℕ) × BeginsWith bytes m after × Splits after messages rest

-- why no further message is taken after that many
abbrev pub EndsAt : ℕ → List ℕ → End → Type 0
EndsAt count rest Hundred = count ≡ MAX_MESSAGES
EndsAt count rest Closed = (count < MAX_MESSAGES) × Stops rest Closed
EndsAt count rest Unfinished = (count < MAX_MESSAGES) × Stops rest Unfinished
EndsAt count rest BadHead = (count < MAX_MESSAGES) × Stops rest BadHead
EndsAt count rest TooLarge = (count < MAX_MESSAGES) × Stops rest TooLarge

-- the messages of a stream, and its end
pub record Messages (bytes : List ℕ) (messages : List Message) (end : End) : Type 0 where
  pub rest : List ℕ
  pub split : Splits bytes messages rest
  pub ends : EndsAt (length messages) rest end
