use Rattle.office_model.proofs.Common.{AreCounted, ℕ, ◌≤◌, take, slice_index}
use Rattle.office_model.proofs.counting.counted.Given as goal

abbrev pub invariant-loop-placement : goal.invariant-loop-placement
invariant-loop-placement l = record {
  counted : AreCounted l.up_to l.supervisors l.projects (take l.placement-index l.placements) l.counts;
  few_in_project : (k : ℕ) → slice_index l.counts.projects k ≤ l.placement-index;
  few_with_supervisor : (k : ℕ) → slice_index l.counts.supervisors k ≤ l.placement-index;
}
