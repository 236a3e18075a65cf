use Rattle.std.proofs.Common.{ℕ, List, Contains, map, sym, subst}
use Rattle.desk.proofs.layers.Common.{Project}
use Rattle.desk.proofs.layers.session.positions_of.Goals as goal

pub position_of-requires : goal.position_of-requires
position_of-requires c = record {
  known = subst (λ (code : List ℕ). Contains (map (λ (p : Project). p.code) c.args.projects.now) code) (sym c.code-item.is) (c.requires.known c.loop-code.code-index c.code-item.result c.loop-code-test.true);
}
