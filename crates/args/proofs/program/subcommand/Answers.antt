use Rattle.std.proofs.Common.{◌∙◌, ◌||◌, Bool, ap, ap₂, arith, refl}
use Rattle.args.proofs.Common.{app_of, new_app, with_rule, with_argument, argument_by}
use Rattle.args.proofs.Loops.{folded_all, folded_more}
use Rattle.args.proofs.program.subcommand.Goals as goal

pub loop-declarations-preserved : goal.loop-declarations-preserved
loop-declarations-preserved c =
    let arg = c.argument.ensures in (
      folded_more (λ app a. with_argument c.args.kinds app (argument_by a)) (new_app c.args.row.now.name.now) c.args.row.now.arguments.now c.loop-declarations.declarations-index _ (app_of c.loop-declarations.command) _ (omega arith)
          c.loop-declarations.invariant.0 (c.in_ok-command.ensures.shape arg.local ∙ ap (with_rule (app_of c.loop-declarations.command)) arg.rule),
      c.in_ok-command.ensures.globals ∙ ap₂ (λ (a b : Bool). a || b) c.loop-declarations.invariant.1 arg.local,
    )

pub returns-clause-app : goal.returns-clause-app
returns-clause-app c = folded_all (with_argument c.args.kinds) argument_by (new_app c.args.row.now.name.now) c.args.row.now.arguments.now _ c.loop-declarations.declarations-index _ (omega arith) c.loop-declarations.invariant.0 refl
