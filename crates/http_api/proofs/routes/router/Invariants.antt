-- The routes that are left, put into the router as it stands, make the rows, and each of them is new.
use Rattle.http_api.proofs.Common.{all_routes}
use Rattle.http_api.proofs.Routers.{Make, left}
use Rattle.http_api.proofs.routes.router.Given as goal

abbrev pub invariant-loop-path : goal.invariant-loop-path
invariant-loop-path l = Make l.router (left l.path-items l.path-index) all_routes
