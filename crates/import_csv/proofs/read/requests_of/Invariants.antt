use Rattle.std.proofs.Common.{◌≡◌, ◌++◌, drop, map}
use Rattle.csv.specs.Records.{fields_of}
use Rattle.import_csv.specs.Kinds.{request_of}
use Rattle.import_csv.proofs.read.requests_of.Given as goal

abbrev pub invariant-loop-record : goal.invariant-loop-record
invariant-loop-record l = l.requests.items ++ map (λ r. request_of l.kind (fields_of r)) (drop l.record-index l.records) ≡ map (λ r. request_of l.kind (fields_of r)) l.records
