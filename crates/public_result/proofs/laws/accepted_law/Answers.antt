use Rattle.public_result.proofs.Accepted.{posts_are_accepted}
use Rattle.public_result.proofs.laws.accepted_law.Goals as goal

pub returns : goal.returns
returns c = posts_are_accepted
