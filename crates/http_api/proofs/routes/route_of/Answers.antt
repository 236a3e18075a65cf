-- A path that finds a row has the code that the row's parameter takes, if that fits.
use Rattle.std.proofs.Common.{refl, sym, ap, ◌∙◌, subst}
use Rattle.http_api.proofs.Common.{NamesBy, fits}
use Rattle.http_api.proofs.PathsOfRoutes.{nowhere, unfit, taken, code_read}
use Rattle.http_api.proofs.routes.route_of.Goals as goal

pub returns-in_default : goal.returns-in_default
returns-in_default c = nowhere c.args.router.now c.args.path.now c.requires c.in_default.ensures.missing

pub returns-then-not-fits : goal.returns-then-not-fits
returns-then-not-fits c =
    let p = c.in-Ok.found.params in
    let t = taken c.args.router.now c.args.path.now _ c.requires c.utf8.path c.in-Ok.ensures.found in
    let code = ap (λ b. b.now) c.unwrap_or-code.ensures ∙ code_read (λ b. b.now) c.get.result _ p.pattern.now p.text.now c.args.path.now p.path.now p.names.now c.in-Ok.ensures.path t.texts c.get.ensures refl in
    unfit c.args.router.now c.args.path.now _ c.requires c.in-Ok.ensures.found (sym (ap (fits c.in-Ok.found.value.now.segments) code) ∙ sym c.fits.ensures ∙ c.if-not-fits.true)

pub returns : goal.returns
returns c =
    let p = c.in-Ok.found.params in
    let t = taken c.args.router.now c.args.path.now _ c.requires c.utf8.path c.in-Ok.ensures.found in
    let code = ap (λ b. b.now) c.unwrap_or-code.ensures ∙ code_read (λ b. b.now) c.get.result _ p.pattern.now p.text.now c.args.path.now p.path.now p.names.now c.in-Ok.ensures.path t.texts c.get.ensures refl in
    subst (NamesBy c.args.path.now c.in-Ok.found.value.now) (sym code) (t.names (sym (ap (fits c.in-Ok.found.value.now.segments) code) ∙ sym c.fits.ensures ∙ c.if-not-fits.false))
