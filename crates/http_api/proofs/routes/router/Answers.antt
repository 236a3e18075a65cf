-- A route that is new is put in, and only running out of memory hinders it.
use Rattle.std.proofs.Common.{◌≡◌, length, refl, sym, ap, ◌∙◌, arith}
use Rattle.std.proofs.lemmas.Result.{err_from_is_err_and}
use Rattle.http_api.proofs.Common.{length-map}
use Rattle.matchit.proofs.OnLiterals.{matchit_on_literals}
use Rattle.http_api.specs.Routes.{all_routes}
use Rattle.http_api.proofs.Routers.{as_values, goes_on, first_new, is_memory, all_made}
use Rattle.http_api.proofs.routes.router.Goals as goal

pub loop-path-init : goal.loop-path-init
unfolding matchit_on_literals all_routes
loop-path-init c = rw (c.new-router.ensures, c.routes-path-items.ensures) (record { made = refl; fresh = refl })

pub returns-in_err-insert-clause-memory : goal.returns-in_err-insert-clause-memory
unfolding all_routes
returns-in_err-insert-clause-memory c =
    let p = err_from_is_err_and c.from_residual.result c.from_residual.ensures.1 in
    let many : length c.routes-path-items.result ≡ length all_routes = sym (length-map c.routes-path-items.result as_values) ∙ ap length c.routes-path-items.ensures in
    let fresh = first_new c.routes-path-items.result c.loop-path.path-index _ c.loop-path.router all_routes (omega (arith, many, c.loop-path-test.true)) c.loop-path.invariant in
    rw (p.1, p.2) (is_memory _ _ c.loop-path.router _ _ fresh c.in_err-insert.ensures)

pub loop-path-preserved : goal.loop-path-preserved
unfolding all_routes
loop-path-preserved c =
    let many : length c.routes-path-items.result ≡ length all_routes = sym (length-map c.routes-path-items.result as_values) ∙ ap length c.routes-path-items.ensures in
    goes_on c.routes-path-items.result c.loop-path.path-index _ c.loop-path.router c.insert.new.self all_routes c.in_ok-insert.field-0 (omega (arith, many, c.loop-path-test.true)) c.loop-path.invariant
    c.in_ok-insert.ensures

pub returns-clause-routes : goal.returns-clause-routes
unfolding all_routes
returns-clause-routes c =
    let many : length c.routes-path-items.result ≡ length all_routes = sym (length-map c.routes-path-items.result as_values) ∙ ap length c.routes-path-items.ensures in
    all_made c.routes-path-items.result c.loop-path.path-index c.loop-path.router all_routes (omega (arith, many, c.loop-path-test.false)) c.loop-path.invariant
