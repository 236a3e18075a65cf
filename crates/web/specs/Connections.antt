-- What became of the connections of a port, and the line of each.
use Rattle.std.specs.Prelude.{◌≡◌, ◌⊎◌, ℕ, suc, ◌+◌, ◌<◌, List, [], ◌∷◌, ◌++◌, length, take, codes, decimal, ⊤, Option, Some, None, Result, Ok, Err}
use Rattle.std.specs.Io.KnownBytes.{Appends}
use Rattle.http_stream.specs.declared.outcome.End.{End}
use Rattle.http_stream.specs.declared.outcome.End.TheVariants.{Closed, Unfinished, BadHead, TooLarge, Hundred}
use Rattle.http_stream.specs.declared.outcome.Served.{Served}
use Rattle.http_stream.specs.declared.outcome.StreamFault.{StreamFault}
use Rattle.http_stream.specs.declared.outcome.StreamFault.TheVariants.{Memory, Read, Write}
use Rattle.http_stream.specs.Run.{MessageText, read_failed, write_failed}
use Rattle.http_stream.specs.Served.{IsServed}
use Rattle.host.specs.WorldState.{Ends, Peer}
use Rattle.web.specs.Serving.{end_text}
use Rattle.web.specs.declared.TheConstants.{MAX_UNACCEPTED}

-- what became of one who connects, or none of one who could not be accepted
abbrev pub Visit : Type 0
Visit = Option (Result Served StreamFault)

module _ {D : Type 0} (step : D → MessageText → List ℕ → D → Type 0) where
  -- the stream of a connection was served at a desk, to its end or until a fault of reading or writing, which is the one that its end had
  pub record IsStreamed (first : Ends) (before : D) (came : Result Served StreamFault) (after : D) (last : Ends) : Type 0 where
    pub served : IsServed step end_text before first.left first.written came after last.left last.written
    pub read_count : last.read_failures ≡ first.read_failures + read_failed came
    pub write_count : last.write_failures ≡ first.write_failures + write_failed came

  -- the stream of a connection was served, or it could not be accepted, which leaves what is at the desk
  abbrev pub Connects : Peer → D → Visit → D → Type 0
  Connects peer before (Some came) after = (first : Ends) × peer.comes (Some first) × (last : Ends) × peer.leaves last × IsStreamed first before came after last
  Connects peer before None after = peer.comes None × (after ≡ before)

  -- those who connected, one after another
  abbrev pub Connect : (ℕ → Peer) → D → List Visit → D → Type 0
  Connect peers before [] after = after ≡ before
  Connect peers before (came ∷ more) after = (next : D) × Connects (peers 0) before came next × Connect (λ n. peers (suc n)) next more after

-- the word for the end of a stream
abbrev pub end_word : End → List ℕ
end_word Closed = codes "closed"
end_word Unfinished = codes "unfinished"
end_word BadHead = codes "bad-head"
end_word TooLarge = codes "too-large"
end_word Hundred = codes "hundred"

-- what is printed of a connection
abbrev pub told_of : Result Served StreamFault → List ℕ
told_of (Ok served) = decimal served.answered ++ codes " answers, " ++ end_word served.end
told_of (Err Memory) = codes "memory fault"
told_of (Err Read) = codes "read fault"
told_of (Err Write) = codes "write fault"

-- one that could not be accepted is printed as a fault of reading
abbrev pub told_visit : Visit → List ℕ
told_visit (Some came) = told_of came
told_visit None = codes "read fault"

-- the line of the connection with this number
abbrev pub connection_line : ℕ → Visit → List ℕ
connection_line number visit = codes "connection " ++ decimal number ++ codes ": " ++ told_visit visit ++ 10 ∷ []

-- the lines of connections of which this many came before
abbrev pub lines_after : ℕ → List Visit → List ℕ
lines_after before [] = []
lines_after before (came ∷ more) = connection_line (before + 1) came ++ lines_after (before + 1) more

-- how many in a row could not be accepted, after one more
abbrev pub next_row : ℕ → Visit → ℕ
next_row before (Some _) = 0
next_row before None = before + 1

-- the same after these
abbrev pub in_a_row : ℕ → List Visit → ℕ
in_a_row before [] = before
in_a_row before (visit ∷ more) = in_a_row (next_row before visit) more

-- before each of these too few in a row could not be accepted for giving up
abbrev pub AreAwaited : ℕ → List Visit → Type 0
AreAwaited before [] = ⊤
AreAwaited before (visit ∷ more) = (before < MAX_UNACCEPTED) × AreAwaited (next_row before visit) more

module _ {D : Type 0} (step : D → MessageText → List ℕ → D → Type 0) (peers : ℕ → Peer) where
  -- this many connections were served, and the line of each was written; as many as `row` at the end could not be accepted
  pub record AreServed (before : D) (number row : ℕ) (w0 w : Option (List ℕ)) (after : D) : Type 0 where
    pub came : List Visit
    pub counted : length came ≡ number
    pub ended : in_a_row 0 came ≡ row
    pub awaited : AreAwaited 0 came
    pub served : Connect step peers before came after
    pub wrote : Appends w0 w (lines_after 0 came)

  -- as many as asked for were served, or fewer, since too many in a row could not be accepted
  pub record AllServed (before : D) (count number : ℕ) (w0 w : Option (List ℕ)) (after : D) : Type 0 where
    pub row : ℕ
    pub are : AreServed before number row w0 w after
    pub ends : (number ≡ count) ⊎ ((number < count) × (row ≡ MAX_UNACCEPTED))

  -- some of this many connections were served: the lines of all but the last were written whole, and a part of the last one's
  pub record SomeServed (before : D) (count : ℕ) (w0 w : Option (List ℕ)) (after : D) : Type 0 where
    pub earlier : List Visit
    pub last : Visit
    pub few : length earlier < count
    pub awaited : AreAwaited 0 (earlier ++ last ∷ [])
    pub served : Connect step peers before (earlier ++ last ∷ []) after
    pub kept : ℕ
    pub cut : kept < length (connection_line (length earlier + 1) last)
    pub wrote : Appends w0 w (lines_after 0 earlier ++ take kept (connection_line (length earlier + 1) last))
