use Rattle.std.proofs.Common.{false, Option, ap}
use Rattle.reports.proofs.Common.{option_map_or, Round}
use Rattle.reports.proofs.profile_report.is_open.Goals as goal

pub returns-in-Some : goal.returns-in-Some
returns-in-Some c = ap (λ (x : Option Round). option_map_or (λ r. r.is_open) x false) c.in-Some.ensures

pub returns-in-None : goal.returns-in-None
returns-in-None c = ap (λ (x : Option Round). option_map_or (λ r. r.is_open) x false) c.in-None.ensures
