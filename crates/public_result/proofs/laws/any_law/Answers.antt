use Rattle.public_result.proofs.Any.{prices_serve_all}
use Rattle.public_result.proofs.laws.any_law.Goals as goal

pub returns : goal.returns
returns c = prices_serve_all
