use Rattle.std.proofs.Common.{◌∙◌, ap, arith}
use Rattle.args.proofs.Common.{App, app_of, with_subcommand, program_name, with_line, lines, told_by}
use Rattle.args.proofs.Loops.{folded_all, folded_more}
use Rattle.args.proofs.program.program.Goals as goal

pub loop-row-preserved : goal.loop-row-preserved
loop-row-preserved c =
    let made = c.in_ok-subcommand.ensures in
    folded_more (λ app row. with_line c.args.kinds app (told_by row)) program_name c.rows-lines.result.now c.loop-row.row-index _ (app_of c.loop-row.command) _ (omega arith)
    c.loop-row.invariant (c.in_ok-command.ensures.shape made.local ∙ ap (λ (a : App). with_subcommand (app_of c.loop-row.command) a.top) made.app)

pub returns : goal.returns
returns c = folded_all (with_line c.args.kinds) told_by program_name c.rows-lines.result.now lines c.loop-row.row-index _ (omega arith) c.loop-row.invariant c.rows-lines.ensures
