-- All bytes are digits where those that are left are.
use Rattle.std.proofs.Common.{◌≡◌, drop}
use Rattle.http_api.proofs.Common.{all_ascii_digits}
use Rattle.http_api.proofs.routes.all_digits.Given as goal

abbrev pub invariant-loop-b : goal.invariant-loop-b
invariant-loop-b l = all_ascii_digits (drop l.b-index l.text) ≡ all_ascii_digits l.text
