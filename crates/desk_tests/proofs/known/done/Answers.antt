use Rattle.std.proofs.Common.{ℕ, List, map, string_bytes, subst}
use Rattle.cli.specs.Databases.{WordsAt}
use Rattle.cli.specs.Solving.{SolvesIn}
use Rattle.desk_tests.specs.Known.{Tells, holds_of, world_of}
use Rattle.desk_tests.proofs.Told.{printed_more, tells}
use Rattle.desk_tests.proofs.known.done.Goals as goal

pub returns : goal.returns
returns g c = λ solving.
    let it = c.args.world in
    let came = c.run_command-status.result.1 in
    let new = c.run_command-status.new.outputs in
    let status = c.run_command-status.result.0 in
    let world = world_of g.D.Disk (map string_bytes it.words.now) it.name.now it.text.now it.disks (map (λ call. call.items) it.calls.now) in
    printed_more (SolvesIn (holds_of it.name.now it.text.now)) (Tells it.name.now it.text.now) (tells it.name.now it.text.now) c.args.outputs.now new status
    (c.solve_law.ensures.printed came new status (subst (λ (words : List (List ℕ)). WordsAt world words came c.args.outputs.now new status) solving c.run_command-status.ensures.file))
