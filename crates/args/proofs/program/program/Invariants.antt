use Rattle.std.proofs.Common.{◌≡◌, fold, take}
use Rattle.args.proofs.Common.{app_of, program_name, with_line, told_by}
use Rattle.args.proofs.program.program.Given as goal

abbrev pub invariant-loop-row : goal.invariant-loop-row
invariant-loop-row l = app_of l.command ≡ fold (λ app row. with_line l.fn.kinds app (told_by row)) program_name (take l.row-index l.lines)
