use Rattle.std.proofs.Common.{rules}
use Rattle.web.proofs.service.refusal_at.Goals as goal

pub returns-in-TooLarge : goal.returns-in-TooLarge
returns-in-TooLarge c = search rules
