use Rattle.std.proofs.Common.{◌≡◌, drop, map}
use Rattle.std.specs.Str.{bytes_eq}
use Rattle.std.specs.Cmp.Lexicographic.{pointwise}
use Rattle.csv.specs.Records.{fields_of}
use Rattle.import_csv.proofs.read.has_fields.Given as goal

abbrev pub invariant-loop-place : goal.invariant-loop-place
invariant-loop-place l = pointwise bytes_eq (drop l.place (fields_of l.fields)) (drop l.place (map (λ name. name.now) l.names)) ≡ pointwise bytes_eq (fields_of l.fields) (map (λ name. name.now) l.names)
