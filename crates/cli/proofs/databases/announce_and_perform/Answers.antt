use Rattle.std.proofs.Common.{◌≡◌, inr, refl, sym, subst}
use Rattle.cli.proofs.Common.{state, HasNone, DoesOver, new_database}
use Rattle.cli.proofs.Opened.{cuts_named}
use Rattle.cli.proofs.Writers.{cut_printed, named_first, prints_more, printed_new}
use Rattle.cli.proofs.databases.announce_and_perform.Goals as goal

pub returns-then-not-has_none-clause-printed : goal.returns-then-not-has_none-clause-printed
returns-then-not-has_none-clause-printed g c =
    prints_more (DoesOver g.S.Store (g.P.Ports.state c.args.ports) c.args.task c.args.connection c.open_and_perform.result.1) _
    (λ o is. inr ((λ none. c.has_none.ensures.wrong c.if-not-has_none.true (subst HasNone (sym c.schema.ensures.value) none)), is)) _ _ _ c.open_and_perform.ensures.printed

pub returns-then-not-has_none-clause-named : goal.returns-then-not-has_none-clause-named
returns-then-not-has_none-clause-named g c = λ none. absurd (c.has_none.ensures.wrong c.if-not-has_none.true (subst HasNone (sym c.schema.ensures.value) none))

-- where the line is not written whole nothing is done
pub returns-in_default-clause-named : goal.returns-in_default-clause-named
returns-in_default-clause-named g c = λ _. inr (c.in_default.ensures.err, refl)

pub returns-in_default-clause-printed : goal.returns-in_default-clause-printed
returns-in_default-clause-printed g c = cut_printed (new_database c.args.name.now) _ c.args.outputs.now c.print_new.new.self c.in_default.ensures.err

pub returns-in_default-clause-left : goal.returns-in_default-clause-left
returns-in_default-clause-left g c = inr (refl, λ clean up. (up, refl, refl))

pub returns-in_default-clause-cut : goal.returns-in_default-clause-cut
returns-in_default-clause-cut g c = inr (λ clean up. (up, refl, refl))

pub returns-clause-cut : goal.returns-clause-cut
returns-clause-cut g c = cuts_named g.S.Store (g.P.Ports.state c.args.ports) (new_database c.args.name.now) c.args.outputs.now c.print_new.new.self c.open_and_perform-2.new.outputs c.in-Ok.ensures.ok c.args.task c.args.connection c.open_and_perform-2.result.1 c.open_and_perform-2.ensures.cut

pub returns-clause-named : goal.returns-clause-named
returns-clause-named g c = λ _. named_first c.args.name.now _ (c.open_and_perform-2.result.1 ≡ c.args.connection) c.args.outputs.now c.print_new.new.self c.open_and_perform-2.new.outputs _ c.in-Ok.ensures.ok c.open_and_perform-2.ensures.printed

pub returns-clause-printed : goal.returns-clause-printed
returns-clause-printed g c =
    printed_new c.args.name.now (HasNone (state g.S.Store c.args.connection).now.schema) (DoesOver g.S.Store (g.P.Ports.state c.args.ports) c.args.task c.args.connection c.open_and_perform-2.result.1) (subst HasNone c.schema.ensures.value (c.has_none.ensures.right c.if-not-has_none.false))
    c.args.outputs.now c.print_new.new.self c.open_and_perform-2.new.outputs _ c.in-Ok.ensures.ok c.open_and_perform-2.ensures.printed
