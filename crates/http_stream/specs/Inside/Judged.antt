-- What is known of a stream, after some of its bytes have come.
use Rattle.std.specs.Prelude.{◌≡◌, ℕ, ◌+◌, ◌<◌, ◌≤◌, true, false, List, ◌++◌, length, drop, slice_range}
use Rattle.httparse.specs.Grammar.{RequestHead, print_request, HasNoRequest, NeverHasRequest}
use Rattle.httparse.specs.Spans.{IsWithin, IsRequestWithin, IsRequestAt, span_bytes}
use Rattle.httparse.specs.declared.spans.HeaderSpan.{HeaderSpan}
use Rattle.http_stream.specs.declared.front.Head.{Head}
use Rattle.http_stream.specs.declared.front.Head.TheVariants.{Found, Malformed, Missing}
use Rattle.http_stream.specs.declared.front.Parts.{Parts}
use Rattle.http_stream.specs.declared.front.Judgement.{Judgement}
use Rattle.http_stream.specs.declared.front.Judgement.TheVariants.{Whole, Stop, Open}
use Rattle.http_stream.specs.declared.TheConstants.{MAX_MESSAGE_BYTES}
use Rattle.http_stream.specs.Messages.{Message, has_line, IsMalformed, BeginsWith, Stops, IsCut}

-- what a search for a head in the window found
abbrev pub FindsHead : List ℕ → List HeaderSpan → Head → Type 0
FindsHead window headers (Found spans) =
    (h : RequestHead) × IsRequestAt window headers spans h × IsRequestWithin window headers spans
FindsHead window headers Malformed = (has_line false window ≡ true) × NeverHasRequest window
FindsHead window headers Missing = HasNoRequest window × (IsMalformed window → ⊥)

-- the parts are those of the message
pub record IsPartsOf (buf : List ℕ) (p : Parts) (m : Message) : Type 0 where
  pub method : span_bytes buf p.method ≡ m.head.method
  pub target : span_bytes buf p.target ≡ m.head.target
  pub method_within : IsWithin (length buf) p.method
  pub target_within : IsWithin (length buf) p.target
  pub head : p.head ≡ length (print_request m.head)
  pub fits : p.head + p.body ≤ length buf
  pub body : slice_range buf p.head (p.head + p.body) ≡ m.body

-- what stands at the front, whatever bytes follow; where that is open, the buffer has room, and how the stream ends if none follow
abbrev pub Judges : List ℕ → Judgement → Type 0
Judges buf (Whole p) =
    (m : Message) × IsPartsOf buf p m
    × ((more : List ℕ) → BeginsWith (buf ++ more) m (drop (p.head + p.body) buf ++ more))
Judges buf (Stop end) = (more : List ℕ) → Stops (buf ++ more) end
Judges buf Open =
    (length buf < MAX_MESSAGE_BYTES) × IsCut buf
