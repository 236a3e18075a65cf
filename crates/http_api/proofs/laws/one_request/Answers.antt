use Rattle.http_api.proofs.OneRequest.{one_asked}
use Rattle.http_api.proofs.laws.one_request.Goals as goal

pub returns : goal.returns
returns c = one_asked
