use Rattle.std.proofs.Common.{arith}
use Rattle.std.proofs.lemmas.Grind.{common_steps}
use Rattle.intake.proofs.write.write_projects.Goals as goal

pub loop-p-preserved : goal.loop-p-preserved
loop-p-preserved c = record { text = grind (arith, common_steps); form = grind (arith, common_steps) }
