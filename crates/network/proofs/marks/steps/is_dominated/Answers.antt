use Rattle.std.proofs.Common.{rules, ◌≡◌, false, inl, inr, sym, ◌∙◌}
use Rattle.network.proofs.Common.{AtMost, potential}
use Rattle.network.proofs.Group.{at_most_trans}
use Rattle.network.proofs.marks.steps.is_dominated.Goals as goal

pub returns : goal.returns
returns g c t =
    let o = g.G.Worth.ops in
    let laws = g.met.G.Worth.laws in
    let l = c.args.labels.now in
    let not_above : c.exceeds.result ≡ false = search rules in
    let below : AtMost o (o.plus c.args.label (potential o c.args.flow.now c.args.node)) l.bound = rw (c.plus.ensures, c.potential_of.ensures) at (sym c.exceeds.ensures ∙ not_above) in
    let bounded = c.requires.queue.bounded in (
      l.end,
      record {
        path = bounded.path;
        reached = elim bounded.reached [
          | inl p ↦ inl (p.0, at_most_trans laws _ _ _ below p.1)
          | inr p ↦ inr (p.0, at_most_trans laws _ _ _ below p.1)
        ];
      },
    )
