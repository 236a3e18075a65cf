use Rattle.std.proofs.Common.{◌≡◌, None, IfErr, sym, subst}
use Rattle.desk.proofs.Common.{Request, refusal_of, MayRefuse, layers}
use Rattle.office_model.specs.declared.request.Request.TheVariants as request
use Rattle.desk.proofs.Refusals.{may_refuse}
use Rattle.desk.proofs.NoStorage.{import_named, unstored}
use Rattle.desk.proofs.persistent.make_change.Goals as goal

pub returns-in-Import-clause-refused : goal.returns-in-Import-clause-refused
returns-in-Import-clause-refused c =
    subst (λ (q : Request). IfErr c.import.result (MayRefuse layers c.args.office.now q)) (sym c.in-Import.is)
    (may_refuse c.args.office.now (request.Import c.in-Import.id c.in-Import.kind c.in-Import.bytes) (subst (λ (q : Request). refusal_of c.args.office.now q ≡ None) c.in-Import.is c.requires.allowed) c.import.result c.import.ensures.refused)

pub returns-in-Import-clause-unstored : goal.returns-in-Import-clause-unstored
returns-in-Import-clause-unstored c = unstored _ c.import.result (import_named c.args.office.now c.in-Import.id c.in-Import.kind c.in-Import.bytes) c.import.ensures.refused
