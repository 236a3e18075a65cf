use Rattle.std.proofs.Common.{◌≡◌, ◌≤◌, ◌∙◌, sym, subst, arith, ℕ, get_or}
use Rattle.solver.proofs.Common.{Places, lex_ops, get_or_default, COMPONENTS, LARGEST_PRICE}
use Rattle.solver.proofs.RowsOfWorths.{rows_more, all_rows}
use Rattle.solver.proofs.solving.rows.Goals as goal

pub loop-worth-preserved : goal.loop-worth-preserved
loop-worth-preserved c =
    let m : ℕ = c.loop-worth.worth-index in
    let e = c.loop-worth.invariant.each in
    let grown = c.in_ok-push.ensures.items in
    let len = c.in_ok-push.ensures.len in
    let w : Places COMPONENTS = c.worth-item.result in
    let here : get_or c.args.worths.now m (lex_ops COMPONENTS).zero ≡ w = get_or_default c.args.worths.now m (lex_ops COMPONENTS).zero w c.loop-worth-test.true ∙ sym c.worth-item.is in
    record {
      each = omega (arith, e, len);
      same = rw grown (λ n t h low. rows_more c.args.aim c.loop-worth.rows.items c.args.worths.now c.numbers.result w m e c.loop-worth.invariant.same here c.numbers.ensures n t h low);
    }

pub numbers-requires : goal.numbers-requires
numbers-requires c =
    let m : ℕ = c.loop-worth.worth-index in
    let w : Places COMPONENTS = c.worth-item.result in
    let here : get_or c.args.worths.now m (lex_ops COMPONENTS).zero ≡ w = get_or_default c.args.worths.now m (lex_ops COMPONENTS).zero w c.loop-worth-test.true ∙ sym c.worth-item.is in
    let s = subst (λ (x : Places COMPONENTS). (lex_ops COMPONENTS).span x ≤ LARGEST_PRICE) here (c.requires m) in
    omega (arith, s)

pub returns : goal.returns
returns c =
    all_rows c.args.aim c.loop-worth.rows.items c.args.worths.now (let e = c.loop-worth.invariant.each in omega (arith, e)) c.loop-worth.invariant.same
