use Rattle.std.proofs.Common.{◌≡◌, fold, take, false}
use Rattle.args.proofs.Common.{app_of, new_app, with_argument, argument_by}
use Rattle.clap.specs.declared.builder.command.Command.TheViews.{out-Command}
use Rattle.args.proofs.program.subcommand.Given as goal

abbrev pub invariant-loop-declarations : goal.invariant-loop-declarations
invariant-loop-declarations l =
    (app_of l.command ≡ fold (λ app a. with_argument l.fn.kinds app (argument_by a)) (new_app l.fn.row.name.now) (take l.declarations-index l.fn.row.arguments.now))
    × ((out-Command l.command).has_globals ≡ false)
