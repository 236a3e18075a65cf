use Rattle.std.proofs.Common.{◌∙◌, Ok, ap, inr, sym, arith}
use Rattle.import_csv.proofs.AfterHeader.{none_found, other_found}
use Rattle.import_csv.proofs.read.requests_after.Goals as goal

pub returns-in-Some-clause-fault : goal.returns-in-Some-clause-fault
returns-in-Some-clause-fault c = inr (other_found c.args.kind c.args.rest.now c.in-Some.before _ (omega arith) (sym c.in-Some.is ∙ c.first_other.ensures))

pub returns-in_ok-requests_of-in-None-clause-read : goal.returns-in_ok-requests_of-in-None-clause-read
returns-in_ok-requests_of-in-None-clause-read c =
    none_found c.args.kind c.args.rest.now (sym c.in-None.is ∙ c.first_other.ensures) ∙ ap Ok (sym c.in_ok-requests_of-in-None.ensures)
