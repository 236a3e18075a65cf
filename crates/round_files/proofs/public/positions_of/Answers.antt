use Rattle.std.proofs.Common.{◌≡◌, ℕ, ◌<◌, List, length, sym, ap, subst, arith}
use Rattle.round_files.specs.Public.{IsPositionOf}
use Rattle.round_files.proofs.Positions.{zip_more}
use Rattle.round_files.proofs.public.positions_of.Goals as goal

pub loop-n-preserved : goal.loop-n-preserved
loop-n-preserved c = zip_more (IsPositionOf c.args.roll.now) (λ t. t.now) c.args.texts.now c.loop-n.n _ c.loop-n.list.items c.push.new.self.items c.position_or_end.result c.loop-n-test.true c.loop-n.invariant c.position_or_end.ensures c.in_ok-push.ensures.items
