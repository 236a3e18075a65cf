use Rattle.std.proofs.Common.{◌≡◌, count_by, is_some, take}
use Rattle.round_files.proofs.public.placed.Given as goal

abbrev pub invariant-loop-student : goal.invariant-loop-student
invariant-loop-student l = l.placed ≡ count_by is_some (take l.student l.told)
