use Rattle.std.proofs.Common.{◌≡◌, ◌==◌, ℕ, length, not, rules, tests, subst, ap}
use Rattle.std.specs.List.{position}
use Rattle.std.proofs.lemmas.Iterator.{YieldsList-from_slice}
use Rattle.std.proofs.lemmas.Iterator.Search.{position_from_yields_List}
use Rattle.std.proofs.lemmas.List.{length-map}
use Rattle.csv.specs.Records.{fields_of}
use Rattle.import_csv.specs.Kinds.{header_of}
use Rattle.import_csv.proofs.read.first_other.Goals as goal

pub returns : goal.returns
returns c =
    let fields : length c.header_of.result.now ≡ length (header_of c.args.kind) = simp length-map at (ap length c.header_of.ensures) in
    subst (λ (n : ℕ). c.position.result ≡ position (λ r. not (length (fields_of r) == n)) c.args.records.now) fields
    (position_from_yields_List (λ r. not (length (fields_of r) == length c.header_of.result.now)) _ _ _ c.position.ensures.ran (YieldsList-from_slice c.args.records.now cc) (λ x b q k. search (rules, tests)))
