-- What an audit of a matching says.
use Rattle.std.specs.Prelude.{ℕ, List, Option}
use Rattle.spa.specs.Order.{order}
use Rattle.spa.specs.Shape.{Shape}
use Rattle.spa.specs.Matching.{IsBest, weight_row}
use Rattle.spa.specs.declared.aim.Aim.{Aim}
use Rattle.spa.specs.Matched.{pairs, IsMatched}
use Rattle.solver.specs.declared.outcome.Audit.{Audit}
use Rattle.solver.specs.declared.outcome.Audit.TheVariants.{Best, Better}

-- best where the places are a best matching by the aim, else a matching whose total weight comes after
abbrev pub IsAudit : Aim → Shape → List (Option ℕ) → Audit → Type 0
IsAudit aim i ks Best = IsBest aim i (pairs i ks)
IsAudit aim i ks (Better better) =
    (¬ IsBest aim i (pairs i ks)) × IsMatched i better.places.items
    × order aim (weight_row i (pairs i ks)) (weight_row i (pairs i better.places.items))
