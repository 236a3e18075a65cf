use Rattle.std.proofs.Common.{rules}
use Rattle.spa.proofs.aim.Aim.word.Goals as goal

pub returns-in-Generous-clause-word : goal.returns-in-Generous-clause-word
returns-in-Generous-clause-word c = search rules
