-- For proofs alone. What serving a stream did.
use Rattle.std.specs.Prelude.{◌≡◌, ℕ, ◌+◌, ◌<◌, List, ◌++◌, length, Option}
use Rattle.std.specs.List.{concat}
use Rattle.std.specs.Io.KnownBytes.{Appends, Consumes}
use Rattle.http_stream.specs.declared.TheConstants.{MAX_MESSAGES}
use Rattle.http_stream.specs.declared.outcome.End.{End}
use Rattle.http_stream.specs.Messages.{Message, Splits}
use Rattle.http_stream.specs.declared.outcome.StreamFault.{StreamFault}
use Rattle.http_stream.specs.Run.{MessageText, RunsMessages}
use Rattle.http_stream.specs.Served.{BrokeOff}

-- so far, of the bytes given, these messages were answered, and the rest is kept
pub record SoFar {S : Type 0} (step : S → MessageText → List ℕ → S → Type 0) (before : S) (left0 w0 : Option (List ℕ))
    (left w : Option (List ℕ)) (rest : List ℕ) (count : ℕ) (now : S) : Type 0 where
  pub given : List ℕ
  pub read : Consumes left0 left given
  pub messages : List Message
  pub split : (more : List ℕ) → Splits (given ++ more) messages (rest ++ more)
  pub counted : length messages ≡ count
  pub answers : List (List ℕ)
  pub ran : RunsMessages step before messages answers now
  pub wrote : Appends w0 w (concat answers)

-- what was served so far goes on to this, by this many more answers
abbrev pub GoesOnServing : {S : Type 0} → (S → MessageText → List ℕ → S → Type 0) → Option (List ℕ) → Option (List ℕ) → List ℕ → S
    → Option (List ℕ) → Option (List ℕ) → List ℕ → S → ℕ → Type 0
GoesOnServing {S} step left w rest now left' w' rest' now' more =
    (before : S) (left0 w0 : Option (List ℕ)) (count : ℕ)
    → SoFar step before left0 w0 left w rest count now → SoFar step before left0 w0 left' w' rest' (count + more) now'

-- what was served so far breaks off here
abbrev pub BreaksOff : {S : Type 0} → (S → MessageText → List ℕ → S → Type 0) → (End → List ℕ) → Option (List ℕ) → Option (List ℕ) → List ℕ → S
    → Option (List ℕ) → Option (List ℕ) → S → StreamFault → Type 0
BreaksOff {S} step refusal left w rest now left' w' now' fault =
    (before : S) (left0 w0 : Option (List ℕ)) (count : ℕ)
    → SoFar step before left0 w0 left w rest count now → count < MAX_MESSAGES → BrokeOff step refusal before left0 w0 left' w' now' fault
