use Rattle.std.proofs.Common.{◌≡◌, false, subst}
use Rattle.desk.proofs.Common.{state}
use Rattle.desk.specs.DeskState.{DeskState}
use Rattle.desk.specs.Inside.Keeping.{AreKept}
use Rattle.desk.specs.Keeping.{Keeps}
use Rattle.desk.proofs.desk.Desk.into_connection.Goals as goal

pub returns-clause-tables : goal.returns-clause-tables
returns-clause-tables g c =
    let kept : AreKept g.S.Store c.self.inside.persistent = subst (AreKept g.S.Store) c.persistent.view_is c.persistent.invariant in
    subst (λ (d : DeskState g.row.S.Denot). Keeps (state g.S.Store d.store) d.office) c.self.view_is kept.stands

pub returns-clause-ended : goal.returns-clause-ended
returns-clause-ended g c =
    let kept : AreKept g.S.Store c.self.inside.persistent = subst (AreKept g.S.Store) c.persistent.view_is c.persistent.invariant in
    subst (λ (d : DeskState g.row.S.Denot). d.store.in_transaction ≡ false) c.self.view_is kept.ended
