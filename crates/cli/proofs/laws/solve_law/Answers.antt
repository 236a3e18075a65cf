use Rattle.cli.proofs.Lines.{solve_comes}
use Rattle.cli.proofs.laws.solve_law.Goals as goal

pub returns : goal.returns
returns g c = record {
  no_file = λ came new status did. (solve_comes (g.W.World.state c.args.world.now) came c.args.outputs.now new status did).0;
  printed = λ came new status did. (solve_comes (g.W.World.state c.args.world.now) came c.args.outputs.now new status did).1;
}
