use Rattle.std.proofs.Common.{List, ℕ, MatchOption, subst}
use Rattle.http_api.proofs.Common.{NamesBy, IsNowhere}
use Rattle.http_api.proofs.requests.by_path.Goals as goal

pub returns-in-Ok : goal.returns-in-Ok
returns-in-Ok c =
    subst (λ (path : List ℕ). MatchOption c.route_of.result (IsNowhere path) (λ found. NamesBy path found.methods found.code.now)) c.in-Ok.ensures.cases.0 c.route_of.ensures
