use Rattle.std.proofs.Common.{arith}
use Rattle.solver.proofs.Common.{COMPONENTS, places_of_same}
use Rattle.solver.proofs.WorthRows.{greedy_row, generous_row}
use Rattle.solver.proofs.worths.worth_of.Goals as goal
use Rattle.solver.proofs.worths.worth_of.Goals.{in-Greedy, in-Generous}

pub returns : goal.returns
returns c =
    elim c.match-aim.branch [
      | in-Greedy w ↦ rw (w.row-is, w.in-Greedy.is) (places_of_same COMPONENTS _ _ (λ t h. greedy_row c.args.rank t (omega arith) (omega arith)))
      | in-Generous w ↦ rw (w.row-is, w.in-Generous.is) (places_of_same COMPONENTS _ _ (λ t h. generous_row c.args.rank t (omega arith) (omega arith) h))
    ]
