-- Runs of a desk over the messages of a stream.
use Rattle.std.specs.Prelude.{◌≡◌, ℕ, List, [], ◌∷◌, Option, Some, None, Result, Ok, Err}
use Rattle.http_stream.specs.declared.outcome.StreamFault.{StreamFault}
use Rattle.http_stream.specs.declared.outcome.StreamFault.TheVariants.{Memory, Read, Write}
use Rattle.http_stream.specs.declared.outcome.End.{End}
use Rattle.http_stream.specs.declared.outcome.End.TheVariants.{Closed, Unfinished, BadHead, TooLarge, Hundred}
use Rattle.http_stream.specs.Messages.{Message}

-- what a desk sees of a message
pub record MessageText : Type 0 where
  pub method : List ℕ
  pub target : List ℕ
  pub body : List ℕ

-- what a message says
abbrev pub said : Message → MessageText
said m = record { method = m.head.method; target = m.head.target; body = m.body }

-- step after step, these answers to these messages
abbrev pub RunsMessages : {S : Type 0} → (S → MessageText → List ℕ → S → Type 0) → S → List Message → List (List ℕ) → S → Type 0
RunsMessages {S} step s [] [] t = s ≡ t
RunsMessages {S} step s (m ∷ messages) (a ∷ answers) t = (u : S) × step s (said m) a u × RunsMessages step u messages answers t
RunsMessages {S} step s [] (a ∷ answers) t = ⊥
RunsMessages {S} step s (m ∷ messages) [] t = ⊥

-- the bytes that are left, none where they are not known
abbrev pub unread : Option (List ℕ) → List ℕ
unread None = []
unread (Some bytes) = bytes

-- what is written at a stream's end, where an end that is refused has this refusal
abbrev pub last_words : (End → List ℕ) → End → List ℕ
last_words refusal Closed = []
last_words refusal Unfinished = []
last_words refusal BadHead = refusal BadHead
last_words refusal TooLarge = refusal TooLarge
last_words refusal Hundred = []

-- how many answers that is
abbrev pub last_count : End → ℕ
last_count Closed = 0
last_count Unfinished = 0
last_count BadHead = 1
last_count TooLarge = 1
last_count Hundred = 0

-- 1 where the result is that the reader failed
abbrev pub read_failed : {A : Type 0} → Result A StreamFault → ℕ
read_failed (Ok a) = 0
read_failed (Err Memory) = 0
read_failed (Err Read) = 1
read_failed (Err Write) = 0

-- 1 where the result is that the writer failed
abbrev pub write_failed : {A : Type 0} → Result A StreamFault → ℕ
write_failed (Ok a) = 0
write_failed (Err Memory) = 0
write_failed (Err Read) = 0
write_failed (Err Write) = 1
