use Rattle.std.proofs.lemmas.Grind.{common_steps}
use Rattle.std.proofs.Common.{◌∙◌, lit<, arith}
use Rattle.std.proofs.lemmas.Iterator.Consumers.{YieldsList-end}
use Rattle.std.proofs.lemmas.Iterator.Splits.{YieldsList-from_str_split}
use Rattle.import_csv.proofs.fields.codes_of.Goals as goal

pub returns : goal.returns
returns c =
    let all = YieldsList-end (YieldsList-from_str_split 32 c.args.list.now (lit< tt) (cc) (cc) (cc)) c.loop-code.yielded _ c.loop-code.yielded_by _ _ c.in-None.is c.next.ensures.steps in
    c.loop-code.invariant ∙ all.0

pub loop-code-preserved : goal.loop-code-preserved
loop-code-preserved c = grind (arith, common_steps)
