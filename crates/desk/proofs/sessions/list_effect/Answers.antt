use Rattle.std.proofs.Common.{rules}
use Rattle.desk.proofs.sessions.list_effect.Goals as goal

pub returns-then-is_some : goal.returns-then-is_some
returns-then-is_some c = search rules
