use Rattle.std.proofs.Common.{subst}
use Rattle.desk.specs.DeskState.{IsInOrder}
use Rattle.desk.proofs.desk.Desk.office.Goals as goal

pub returns-clause-in_order : goal.returns-clause-in_order
returns-clause-in_order g c = subst (IsInOrder g.S.Store) c.self.view_is (record { stands = c.office.ensures.tables; fit = c.office.ensures.fit; live = c.office.ensures.live })
