use Rattle.std.proofs.Common.{◌≡◌, [], ◌∷◌, get_or, codes, rules, refl, ap, ◌∙◌}
use Rattle.intake.proofs.Common.{Greedy, Generous}
use Rattle.intake.proofs.RowInDraft.{one_field}
use Rattle.intake.proofs.Lists.{blank}
use Rattle.intake.proofs.draft.PartialRound.add_aim.Goals as goal

pub returns : goal.returns
returns c =
    let before : c.args.self.now.aim ≡ Greedy = search rules in
    let word : (get_or c.args.fields.now 0 blank).now ≡ codes "generous" = search rules in
    let row = one_field c.args.fields.now c.in-len1.len_at_least c.in-len1.len_below ∙ ap (λ x. x ∷ []) word in
    (Generous, rw (before, row) refl, refl)
