use Rattle.std.proofs.Common.{false, nat_lt, Option, ap}
use Rattle.reports.proofs.Common.{option_map_or, Placement}
use Rattle.reports.proofs.students_report.is_placed_before.Goals as goal

pub returns-in-Some : goal.returns-in-Some
returns-in-Some c = ap (λ (x : Option Placement). option_map_or (λ p. nat_lt p.round c.args.round) x false) c.in-Some.ensures

pub returns-in-None : goal.returns-in-None
returns-in-None c = ap (λ (x : Option Placement). option_map_or (λ p. nat_lt p.round c.args.round) x false) c.in-None.ensures
