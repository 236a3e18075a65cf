use Rattle.std.proofs.Common.{map, take}
use Rattle.std.specs.List.{AllZip}
use Rattle.round_files.specs.Public.{IsPositionOf}
use Rattle.round_files.proofs.public.positions_of.Given as goal

abbrev pub invariant-loop-n : goal.invariant-loop-n
invariant-loop-n l = AllZip (IsPositionOf l.roll) (map (λ t. t.now) (take l.n l.texts)) l.list.items
