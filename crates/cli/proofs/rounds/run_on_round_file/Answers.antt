use Rattle.cli.proofs.Common.{OnFile, ComesBy}
use Rattle.cli.proofs.Writers.{of_file, prints_more}
use Rattle.cli.proofs.rounds.run_on_round_file.Goals as goal

pub returns : goal.returns
returns g c = prints_more _ (OnFile ((g.W.World.state c.args.world.now).holds c.args.file.now) (ComesBy c.args.way)) (λ o is. of_file ((g.W.World.state c.args.world.now).holds c.args.file.now) (ComesBy c.args.way) c.read_file.result c.run_on_round-came.result o c.read_file.ensures.ok c.read_file.ensures.err c.run_on_round-came.ensures is) _ _ _ c.print_round.ensures
