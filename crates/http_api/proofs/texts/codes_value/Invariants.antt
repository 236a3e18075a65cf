-- The values are those of the codes that were seen.
use Rattle.std.proofs.Common.{◌≡◌, map, take}
use Rattle.http_api.proofs.Common.{string, view}
use Rattle.http_api.proofs.texts.codes_value.Given as goal

abbrev pub invariant-loop-code : goal.invariant-loop-code
invariant-loop-code l = map view l.items.items ≡ map string (take l.code-index l.choices)
