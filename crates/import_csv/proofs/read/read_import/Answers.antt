use Rattle.std.proofs.Common.{ap, arith, length}
use Rattle.std.proofs.lemmas.Result.{IfErr-weaker, IfOk-weaker}
use Rattle.import_csv.proofs.AfterHeader.{as_many_requests, few_read, within_more}
use Rattle.import_csv.proofs.read.read_import.Goals as goal

pub returns-clause-few : goal.returns-clause-few
returns-clause-few c =
    let few = few_read c.args.bytes.now c.in_ok-records.records.items c.in_ok-records.ensures in
    IfOk-weaker c.requests_after.result _ _
    (λ requests read. omega (arith, as_many_requests c.args.kind _ requests.items read, ap length c.as_slice.ensures.value, c.in-Some.ensures.cases.1))
    c.requests_after.ensures.read

pub returns-clause-within : goal.returns-clause-within
returns-clause-within c =
    let few = few_read c.args.bytes.now c.in_ok-records.records.items c.in_ok-records.ensures in
    IfErr-weaker c.requests_after.result _ _ (λ fault. within_more _ _ fault (omega (arith, ap length c.as_slice.ensures.value, c.in-Some.ensures.cases.1))) c.requests_after.ensures.within
