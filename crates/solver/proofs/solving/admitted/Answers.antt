use Rattle.std.proofs.Common.{ℕ, ◌≤◌, sym, subst, arith, List, Option, length, ◌∙◌, ap}
use Rattle.solver.proofs.Common.{RANKS, order, Shape, IsPlaceOf, list_of, IsBest, pairs, IsProvedBest, IfOk-from_err, length-map, weighed}
use Rattle.solver.proofs.PricesProve.{shape_is, list_short}
use Rattle.solver.proofs.FiveConditions.{proved_best}
use Rattle.spa.proofs.LexOrder.{lexicographic}
use Rattle.verdict.proofs.Best.{proved_is_best}
use Rattle.solver.proofs.solving.admitted.Goals as goal

pub matching_of-requires-clause-small : goal.matching_of-requires-clause-small
matching_of-requires-clause-small c s k e =
    let i : Shape = c.args.instance.now.shape in
    let inside : IsPlaceOf (list_of i s) k = subst (λ (j : Shape). IsPlaceOf (list_of j s) k) (shape_is c.args.aim i c.in_ok-network.network c.in_ok-network.ensures) (c.in_ok-network.ensures.priced.matched.places.in_list s k e) in
    let short : length (list_of i s) ≤ RANKS = list_short i c.student_count.ensures.fit.sound s in
    omega (arith, short)

pub returns-clause-proved : goal.returns-clause-proved
returns-clause-proved c =
    let i : Shape = c.args.instance.now.shape in
    let b : IsProvedBest (order c.args.aim) i c.in_ok-network.network.places c.in_ok-prices.prices = proved_best c.args.aim lexicographic i c.in_ok-network.network c.in_ok-prices.prices c.student_count.ensures.fit.sound c.in_ok-network.ensures c.in_ok-prices.ensures c.in_ok-network.ensures.priced in
    subst (λ (ks : List (Option ℕ)). IsProvedBest (order c.args.aim) i ks c.in_ok-prices.prices) (sym c.in_ok-matching.ensures) b

pub returns-clause-best : goal.returns-clause-best
returns-clause-best c =
    let i : Shape = c.args.instance.now.shape in
    let b : IsProvedBest (order c.args.aim) i c.in_ok-network.network.places c.in_ok-prices.prices = proved_best c.args.aim lexicographic i c.in_ok-network.network c.in_ok-prices.prices c.student_count.ensures.fit.sound c.in_ok-network.ensures c.in_ok-prices.ensures c.in_ok-network.ensures.priced in
    subst (λ (ks : List (Option ℕ)). IsBest c.args.aim i (pairs i ks)) (sym c.in_ok-matching.ensures) (proved_is_best i c.args.aim c.in_ok-network.network.places c.in_ok-prices.prices b)

pub matching_of-requires-clause-students : goal.matching_of-requires-clause-students
matching_of-requires-clause-students c = ap length c.in_ok-network.ensures.lists ∙ length-map c.args.instance.now.shape.students (weighed c.args.aim) ∙ sym c.student_count.ensures.count

pub matching_of-requires-clause-places : goal.matching_of-requires-clause-places
matching_of-requires-clause-places c =
    let same = shape_is c.args.aim c.args.instance.now.shape c.in_ok-network.network c.in_ok-network.ensures in
    c.in_ok-network.ensures.priced.matched.places.one_each ∙ ap (λ j. length j.students) same ∙ sym c.student_count.ensures.count

pub returns-in_err-network-clause-proved : goal.returns-in_err-network-clause-proved
returns-in_err-network-clause-proved c = IfOk-from_err c.from_residual.result _ c.from_residual.ensures.0

pub returns-in_err-network-clause-best : goal.returns-in_err-network-clause-best
returns-in_err-network-clause-best c = IfOk-from_err c.from_residual.result _ c.from_residual.ensures.0

pub returns-in_err-matching-clause-proved : goal.returns-in_err-matching-clause-proved
returns-in_err-matching-clause-proved c = IfOk-from_err c.from_residual-in_err-matching.result _ c.from_residual-in_err-matching.ensures.0

pub returns-in_err-matching-clause-best : goal.returns-in_err-matching-clause-best
returns-in_err-matching-clause-best c = IfOk-from_err c.from_residual-in_err-matching.result _ c.from_residual-in_err-matching.ensures.0

pub returns-in_err-prices-clause-proved : goal.returns-in_err-prices-clause-proved
returns-in_err-prices-clause-proved c = IfOk-from_err c.from_residual-in_err-prices.result _ c.from_residual-in_err-prices.ensures.0

pub returns-in_err-prices-clause-best : goal.returns-in_err-prices-clause-best
returns-in_err-prices-clause-best c = IfOk-from_err c.from_residual-in_err-prices.result _ c.from_residual-in_err-prices.ensures.0
