use Rattle.office.proofs.closing.Common.{Supervisor, Placement, AreCounted, project_left, ◌≡◌, ℕ, ◌++◌, List, Option, map, drop}
use Rattle.office.proofs.closing.making.projects_left.Given as goal

abbrev pub invariant-loop-position : goal.invariant-loop-position
invariant-loop-position l = (up_to : Option ℕ) (supervisors : List Supervisor) (placements : List Placement) → AreCounted up_to supervisors l.projects placements l.counts
    → l.roll.items ++ map (project_left up_to placements) (drop l.position l.projects) ≡ map (project_left up_to placements) l.projects
