use Rattle.std.proofs.Common.{◌∙◌}
use Rattle.solver.proofs.Common.{pairs, shape_of}
use Rattle.solver.proofs.Alike.{same_profile}
use Rattle.solver.proofs.PricesProve.{kept_best}
use Rattle.solver.proofs.session.Session.profile.Goals as goal

pub returns-clause-profile : goal.returns-clause-profile
returns-clause-profile c =
    let v = c.self.inside.network in
    rw (← c.self.view_is) (λ M best k h. c.ranked.ensures.profile k h ∙ same_profile c.self.inside.aim (shape_of v) (pairs (shape_of v) v.places) M (kept_best c.self.inside.aim v c.self.inside.students c.self.invariant) best k h)

pub ranked-requires : goal.ranked-requires
ranked-requires c = (c.self.inside.aim, c.self.invariant)
