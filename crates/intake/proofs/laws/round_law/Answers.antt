use Rattle.std.proofs.Common.{refl}
use Rattle.intake.proofs.Unique.{one_text, read_back}
use Rattle.intake.proofs.laws.round_law.Goals as goal

pub returns : goal.returns
returns c = record { one = one_text; back = read_back; limit = refl }
