use Rattle.office.proofs.closing.Common.{Project, Placement, AreCounted, supervisor_left, ◌≡◌, ℕ, ◌++◌, List, Option, map, drop}
use Rattle.office.proofs.closing.making.supervisors_left.Given as goal

abbrev pub invariant-loop-position : goal.invariant-loop-position
invariant-loop-position l = (up_to : Option ℕ) (projects : List Project) (placements : List Placement) → AreCounted up_to l.supervisors projects placements l.counts
    → l.roll.items ++ map (supervisor_left up_to projects placements) (drop l.position l.supervisors) ≡ map (supervisor_left up_to projects placements) l.supervisors
