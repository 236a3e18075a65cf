use Rattle.std.proofs.Common.{◌≡◌, map, take}
use Rattle.intake.proofs.Common.{IsSoundUpTo}
use Rattle.intake.proofs.Lists.{StandAt}
use Rattle.intake.proofs.draft.read_list.Given as goal

abbrev pub invariant-loop-field : goal.invariant-loop-field
invariant-loop-field l = record {
  read : l.list.items ≡ take l.field-index (map (λ f. f.now) l.fields);
  sound : IsSoundUpTo (map (λ e. e.0) l.projects) (map (λ f. f.now) l.fields) l.field-index;
  placed : StandAt (map (λ e. e.0) l.projects) l.positions.items l.list.items;
}
