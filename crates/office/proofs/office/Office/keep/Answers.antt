use Rattle.office.proofs.Common.{◌&&◌, not, nat_le, false, List, length, MAX_IMPORTS, Import, State, has_import, IsFit, state_of, ◌≡◌, sym, subst}
use Rattle.office.proofs.changes.FitAfterPut.{fit_with_import}
use Rattle.office.proofs.office.Office.keep.Goals as goal

pub invariant_of-self-2 : goal.invariant_of-self-2
invariant_of-self-2 c =
    let inside : State = state_of c.self.inside in
    let room = subst (λ (o : State). (not (has_import o c.args.import.id) && nat_le MAX_IMPORTS (length o.imports)) ≡ false) (sym c.self.view_is) c.requires.room in
    subst (λ (is : List Import). IsFit (record inside { imports = is })) (sym c.in_ok-put.ensures.ok) (fit_with_import c.args.import inside c.self.invariant c.requires.fits room)
