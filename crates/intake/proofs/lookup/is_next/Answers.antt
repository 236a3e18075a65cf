use Rattle.intake.proofs.Order.{is_next_of}
use Rattle.intake.proofs.lookup.is_next.Goals as goal

pub returns : goal.returns
returns g c = is_next_of g.E.Coded.key c.args.roll.now c.in-Some.last.now c.args.code.now c.code.result.now c.cmp.result c.is_lt.result c.requires c.in-Some.ensures.value c.code.ensures c.cmp.ensures c.is_lt.ensures
