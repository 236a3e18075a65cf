use Rattle.std.proofs.Common.{rules}
use Rattle.desk.proofs.layers.session.start_session.Goals as goal

pub returns : goal.returns
returns c = search rules
