use Rattle.std.proofs.Common.{length, map, rules, subst, sym}
use Rattle.std.proofs.lemmas.Fn.{always_returns_same}
use Rattle.intake.proofs.Common.{Finds, code_cmp}
use Rattle.intake.proofs.Order.{found}
use Rattle.intake.proofs.lookup.position_of.Goals as goal

pub returns : goal.returns
returns g c =
    let key = g.E.Coded.key in
    let s = c.binary_search_by.ensures in
    subst (Finds (map key c.args.roll.now) (length c.args.roll.now) c.args.code.now) (sym c.ok.ensures.value)
    (found key c.args.roll.now c.args.code.now c.binary_search_by.result c.requires s.bound (s.position (λ e. code_cmp (key e) c.args.code.now) (always_returns_same _ _ _ (λ a r f called. search rules))))
