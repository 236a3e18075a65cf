-- What serving a stream did.
use Rattle.std.specs.Prelude.{◌≡◌, ℕ, ◌+◌, ◌<◌, ◌≤◌, ◌⊎◌, List, [], ◌∷◌, ◌++◌, length, take, Option, Result, Err, IfOk, IfErr}
use Rattle.std.specs.List.{concat}
use Rattle.std.specs.Io.KnownBytes.{Appends, Consumes}
use Rattle.http_stream.specs.declared.TheConstants.{MAX_MESSAGES}
use Rattle.http_stream.specs.declared.outcome.End.{End}
use Rattle.http_stream.specs.Messages.{Message, Messages, Splits, Stops, IsCut}
use Rattle.http_stream.specs.declared.outcome.Served.{Served}
use Rattle.http_stream.specs.declared.outcome.StreamFault.{StreamFault}
use Rattle.http_stream.specs.declared.outcome.StreamFault.TheVariants.{Memory, Read, Write}
use Rattle.http_stream.specs.Run.{MessageText, RunsMessages, last_words, last_count, unread}

-- the answers of a run over the messages of these bytes were written, and then the end's refusal
pub record Serves {S : Type 0} (step : S → MessageText → List ℕ → S → Type 0) (refusal : End → List ℕ)
    (before : S) (bytes out : List ℕ) (count : ℕ) (end : End) (after : S) : Type 0 where
  pub messages : List Message
  pub of_stream : Messages bytes messages end
  pub answers : List (List ℕ)
  pub ran : RunsMessages step before messages answers after
  pub written : out ≡ concat answers ++ last_words refusal end
  pub counted : count ≡ length answers + last_count end

-- the bytes of the reader were served, those read and those left to it, and what was written are the answers
pub record ServedTo {S : Type 0} (step : S → MessageText → List ℕ → S → Type 0) (refusal : End → List ℕ) (before : S)
    (left0 w0 left w : Option (List ℕ)) (served : Served) (after : S) : Type 0 where
  pub given : List ℕ
  pub read : Consumes left0 left given
  pub out : List ℕ
  pub wrote : Appends w0 w out
  pub serves : Serves step refusal before (given ++ unread left) out served.answered served.end after

-- all of the first bytes were written, and a beginning of the others
abbrev pub WritesInto : Option (List ℕ) → Option (List ℕ) → List ℕ → List ℕ → Type 0
WritesInto w0 w whole cut = (n : ℕ) × (n < length cut) × Appends w0 w (whole ++ take n cut)

-- all answers but the last were written whole, and the last in part
abbrev pub CutInAnswer : List (List ℕ) → Option (List ℕ) → Option (List ℕ) → Type 0
CutInAnswer answers w0 w =
    (whole : List (List ℕ)) × (last : List ℕ) × (answers ≡ whole ++ last ∷ []) × WritesInto w0 w (concat whole) last

-- all answers were written whole, and the refusal of the end that follows in part
abbrev pub CutInEnd : (End → List ℕ) → List (List ℕ) → List ℕ → Option (List ℕ) → Option (List ℕ) → Type 0
CutInEnd refusal answers rest w0 w =
    (end : End) × Stops rest end × WritesInto w0 w (concat answers) (last_words refusal end)

-- what was written until that fault
abbrev pub WroteUntil : (End → List ℕ) → StreamFault → List (List ℕ) → List ℕ → Option (List ℕ) → Option (List ℕ) → Option (List ℕ) → Type 0
WroteUntil refusal Read answers rest left w0 w = Appends w0 w (concat answers) × IsCut rest
WroteUntil refusal Write answers rest left w0 w =
    CutInAnswer answers w0 w ⊎ CutInEnd refusal answers (rest ++ unread left) w0 w
WroteUntil refusal Memory answers rest left w0 w = (answers ≡ []) × (rest ≡ []) × Appends w0 w []

-- of the bytes given these messages were answered, then that fault came; after the hundredth answer nothing is read, so no reader fails
pub record BrokeOff {S : Type 0} (step : S → MessageText → List ℕ → S → Type 0) (refusal : End → List ℕ) (before : S)
    (left0 w0 left w : Option (List ℕ)) (now : S) (fault : StreamFault) : Type 0 where
  pub given : List ℕ
  pub read : Consumes left0 left given
  pub messages : List Message
  pub few : length messages ≤ MAX_MESSAGES
  pub none_after : fault ≡ Read → length messages < MAX_MESSAGES
  pub rest : List ℕ
  pub split : (more : List ℕ) → Splits (given ++ more) messages (rest ++ more)
  pub answers : List (List ℕ)
  pub ran : RunsMessages step before messages answers now
  pub wrote : WroteUntil refusal fault answers rest left w0 w

-- A stream was served to its end, or until a fault: so the desk was left, and so the reader and the writer. Running out of memory comes
-- before anything is read, asked or written.
pub record IsServed {S : Type 0} (step : S → MessageText → List ℕ → S → Type 0) (refusal : End → List ℕ) (before : S) (left0 w0 : Option (List ℕ))
    (result : Result Served StreamFault) (after : S) (left w : Option (List ℕ)) : Type 0 where
  pub served : IfOk result (λ served. ServedTo step refusal before left0 w0 left w served after)
  pub broken : IfErr result (λ fault. BrokeOff step refusal before left0 w0 left w after fault)
  pub early : result ≡ Err Memory → (after ≡ before) × (left ≡ left0) × (w ≡ w0)
