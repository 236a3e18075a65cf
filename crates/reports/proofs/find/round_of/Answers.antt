use Rattle.std.proofs.Common.{List, ap, ◌∙◌}
use Rattle.reports.proofs.Common.{Round, round_key, rises}
use Rattle.office_model.proofs.LastRound.{rounds_rise}
use Rattle.reports.proofs.find.round_of.Goals as goal

pub find-requires : goal.find-requires
find-requires c = ap (λ (rs : List Round). rises round_key rs) c.rounds.ensures.all ∙ rounds_rise c.args.office.now c.rounds.ensures.fit.numbered
