-- What reading on finds.
use Rattle.std.specs.Prelude.{◌≡◌, ⊤, ℕ, ◌<◌, Bool, false, List, ◌++◌, length, Option}
use Rattle.std.specs.Io.KnownBytes.{Consumes, IsAtEnd}
use Rattle.http_stream.specs.declared.front.Judgement.TheVariants.{Whole}
use Rattle.http_stream.specs.Messages.{Stops}
use Rattle.http_stream.specs.Inside.Judged.{Judges}
use Rattle.http_stream.specs.declared.window.Next.{Next}
use Rattle.http_stream.specs.declared.window.Next.TheVariants.{Message, Ends}
use Rattle.http_stream.specs.Run.{unread}

-- the bytes came from the reader to the end of the buffer
pub record Grows (old new : List ℕ) (left0 left : Option (List ℕ)) : Type 0 where
  pub chunk : List ℕ
  pub read : Consumes left0 left chunk
  pub grown : new ≡ old ++ chunk

-- what stands at the front now, of the buffer and what the reader has left
abbrev pub FindsMessage : List ℕ → Option (List ℕ) → Next → Type 0
FindsMessage buffer left (Message parts) = Judges buffer (Whole parts)
FindsMessage buffer left (Ends end) = Stops (buffer ++ unread left) end

-- a reader that may be asked again has not ended: only where the stream's end was found it may have
abbrev pub IsOpenBut : Next → Bool → Type 0
IsOpenBut (Message parts) ended = ended ≡ false
IsOpenBut (Ends end) ended = ⊤

-- at a count of 0 the reader is at its end
abbrev pub AtEndIfNone : ℕ → List ℕ → List ℕ → Option (List ℕ) → Type 0
AtEndIfNone n old new left = (n ≡ 0 → (new ≡ old) × IsAtEnd left) × (0 < n → length old < length new)
