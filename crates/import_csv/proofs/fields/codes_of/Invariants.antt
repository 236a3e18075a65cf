use Rattle.std.proofs.Common.{◌≡◌, map}
use Rattle.import_csv.proofs.fields.codes_of.Given as goal

abbrev pub invariant-loop-code : goal.invariant-loop-code
invariant-loop-code l = l.codes.items ≡ map (λ code. code.now) l.yielded
