use Rattle.office.proofs.from_rows.Common.{is_whole, drafted, ◌≡◌, sym, ap, true, ◌∙◌}
use Rattle.office.proofs.from_rows.Gathered.{gathered_drafted, gathered_rows}
use Rattle.office.proofs.from_rows.Takes.{gathered_is, unread_unfit}
use Rattle.office.proofs.from_rows.Faults.{handed_on}
use Rattle.office.proofs.from_rows.DraftIsFit.{whole_fit, fit_whole}
use Rattle.office.proofs.from_rows.gathering.gather.Goals as goal

pub returns-in_err-draft-clause-unfit : goal.returns-in_err-draft-clause-unfit
returns-in_err-draft-clause-unfit c = λ is. unread_unfit c.args.rows.now (c.take_all.ensures.unfit (c.in_err-draft.was ∙ handed_on c.from_residual.result _ c.from_residual.ensures.1 is))

pub returns-in_err-need_whole-clause-unfit : goal.returns-in_err-need_whole-clause-unfit
returns-in_err-need_whole-clause-unfit c =
    λ _ w fit are.
    let one = gathered_is c.args.rows.now (drafted c.in_ok-draft.draft) c.in_ok-draft.ensures.found w fit are in
    let whole : is_whole (drafted c.in_ok-draft.draft) ≡ true = ap is_whole one ∙ fit_whole w fit in
    let no = sym whole ∙ c.in_err-need_whole.ensures.err.1 in
    cc

pub returns-clause-fit : goal.returns-clause-fit
returns-clause-fit c = whole_fit (drafted c.in_ok-draft.draft) (gathered_drafted c.args.rows.now _ c.in_ok-draft.ensures.found) c.in_ok-need_whole.ensures.ok

pub returns-clause-rows : goal.returns-clause-rows
returns-clause-rows c = gathered_rows c.args.rows.now (drafted c.in_ok-draft.draft) c.in_ok-draft.ensures.found
