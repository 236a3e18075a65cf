use Rattle.cli.proofs.Lines.{words_come}
use Rattle.cli.proofs.laws.printed_law.Goals as goal

pub returns : goal.returns
returns g c = record { printed = λ words came new status did. words_come (g.W.World.state c.args.world.now) words came c.args.outputs.now new status did }
