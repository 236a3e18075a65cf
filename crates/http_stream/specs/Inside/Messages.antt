-- For proofs alone. The messages of a byte stream, and its end.
use Rattle.std.specs.Prelude.{◌≤◌}
use Rattle.http_stream.specs.declared.TheConstants.{MAX_BODY_BYTES}
use Rattle.http_stream.specs.declared.fields.Framing.{Framing}
use Rattle.http_stream.specs.declared.fields.Framing.TheVariants.{Length, Wrong, Long}

-- a length is at most that of the greatest body
abbrev pub IsShort : Framing → Type 0
IsShort (Length n) = n ≤ MAX_BODY_BYTES
IsShort Wrong = Unit {0}
IsShort Long = Unit {0}
