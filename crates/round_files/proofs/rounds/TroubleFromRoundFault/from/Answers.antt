use Rattle.std.proofs.Common.{ap, sym}
use Rattle.round_files.specs.Inside.Rounds.{trouble_of}
use Rattle.round_files.proofs.rounds.TroubleFromRoundFault.from.Goals as goal

pub returns-in-TooLarge : goal.returns-in-TooLarge
returns-in-TooLarge c = sym (ap trouble_of c.in-TooLarge.is)
