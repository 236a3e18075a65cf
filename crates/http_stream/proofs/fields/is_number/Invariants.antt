use Rattle.std.proofs.Common.{◌≡◌, drop}
use Rattle.http_stream.proofs.Common.{list_all, is_ascii_digit}
use Rattle.http_stream.proofs.fields.is_number.Given as goal

abbrev pub invariant-loop-b : goal.invariant-loop-b
invariant-loop-b l = list_all is_ascii_digit (drop l.b-index l.value) ≡ list_all is_ascii_digit l.value
