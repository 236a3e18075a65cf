use Rattle.std.proofs.Common.{◌∙◌}
use Rattle.solver.proofs.Common.{pairs, shape_of}
use Rattle.solver.proofs.Alike.{same_size}
use Rattle.solver.proofs.PricesProve.{kept_best}
use Rattle.solver.proofs.session.Session.size.Goals as goal

pub returns-clause-size : goal.returns-clause-size
returns-clause-size c =
    let v = c.self.inside.network in
    rw (← c.self.view_is) (λ M best. c.placed.ensures.count ∙ same_size c.self.inside.aim (shape_of v) (pairs (shape_of v) v.places) M (kept_best c.self.inside.aim v c.self.inside.students c.self.invariant) best)

pub placed-requires : goal.placed-requires
placed-requires c = (c.self.inside.aim, c.self.invariant)

pub returns-clause-matched : goal.returns-clause-matched
returns-clause-matched c =
    let v = c.self.inside.network in
    rw (← c.self.view_is) ((pairs (shape_of v) v.places, kept_best c.self.inside.aim v c.self.inside.students c.self.invariant))
