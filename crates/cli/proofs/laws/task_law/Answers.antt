use Rattle.desk.proofs.Reached.{answers_stay, ask_reaches}
use Rattle.cli.proofs.Lasting.{task_stays}
use Rattle.cli.proofs.laws.task_law.Goals as goal

pub returns : goal.returns
returns g c = record { stays = task_stays g.S.Store (g.W.World.state c.args.world.now).ports (ask_reaches g.S.Store) (answers_stay g.S.Store) }
