use Rattle.std.proofs.Common.{◌≡◌, ◌+◌, min, take}
use Rattle.http_stream.proofs.Common.{digits_value, MAX_BODY_BYTES}
use Rattle.http_stream.proofs.fields.saturated.Given as goal

abbrev pub invariant-loop-digit : goal.invariant-loop-digit
invariant-loop-digit l = l.total ≡ min (digits_value 10 (take l.digit-index l.value)) (MAX_BODY_BYTES + 1)
