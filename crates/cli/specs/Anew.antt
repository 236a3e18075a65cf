-- A stream that is served over a new database.
use Rattle.std.specs.Prelude.{◌≡◌, ◌⊎◌, ℕ, List, Option}
use Rattle.office_model.specs.State.{empty}
use Rattle.http_stream.specs.declared.outcome.Served.{Served}
use Rattle.http_stream.specs.declared.outcome.StreamFault.{StreamFault}
use Rattle.http_stream.specs.Served.{ServedTo, BrokeOff}
use Rattle.web.specs.Serving.{AnswersMessage, AtDesk, end_text, just_opened}
use Rattle.cli.specs.declared.status.Status.{Status}
use Rattle.cli.specs.declared.status.Status.TheVariants.{Success, Failure}

-- The stream was served to its end: what was written is the answers of a run over its messages, from the empty office without a session on,
-- and then the refusal of its end.
abbrev pub ServedAnew : Option (List ℕ) → Option (List ℕ) → Option (List ℕ) → Option (List ℕ) → Type 0
ServedAnew left0 w0 left w =
    (served : Served) × (after : AtDesk) × ServedTo AnswersMessage end_text (just_opened empty) left0 w0 left w served after

-- The stream broke off: a beginning of that was written, or there was no office, and nothing was read or written.
abbrev pub BrokenAnew : Option (List ℕ) → Option (List ℕ) → Option (List ℕ) → Option (List ℕ) → Type 0
BrokenAnew left0 w0 left w =
    ((fault : StreamFault) × (after : AtDesk) × BrokeOff AnswersMessage end_text (just_opened empty) left0 w0 left w after fault)
    ⊎ ((left ≡ left0) × (w ≡ w0))

-- the stream was served to its end and the status is 0, or it broke off and the status is 1
abbrev pub StreamsAnew : Option (List ℕ) → Option (List ℕ) → Option (List ℕ) → Option (List ℕ) → Status → Type 0
StreamsAnew left0 w0 left w status =
    (ServedAnew left0 w0 left w × (status ≡ Success)) ⊎ (BrokenAnew left0 w0 left w × (status ≡ Failure))
