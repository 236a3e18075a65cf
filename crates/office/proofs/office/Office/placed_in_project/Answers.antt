use Rattle.office.proofs.Common.{bytes_eq, Placement, State, state_of, arith, ap, ◌∙◌, List, count_by}
use Rattle.office.proofs.Few.{counted_few}
use Rattle.office.proofs.office.Office.placed_in_project.Goals as goal

pub overflow_cast-result : goal.overflow_cast-result
overflow_cast-result c =
    let o : State = state_of c.self.inside in
    let few = counted_few o c.self.invariant (λ p. bytes_eq c.args.code.now p.project) in
    let are = c.placed_in_project.ensures ∙ ap (λ (ps : List Placement). count_by (λ p. bytes_eq c.args.code.now p.project) ps) c.entries.ensures.all in
    omega (arith, few, are)
