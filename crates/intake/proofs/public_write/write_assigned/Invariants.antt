use Rattle.std.proofs.Common.{◌≡◌, ◌++◌, drop, string_bytes}
use Rattle.intake.proofs.RestOfText.{assigned_text}
use Rattle.intake.proofs.public_write.write_assigned.Given as goal

abbrev pub invariant-loop-s : goal.invariant-loop-s
invariant-loop-s l = string_bytes l.out ++ assigned_text l.projects (drop l.s l.roll) (drop l.s l.assigned) ≡ string_bytes l.fn.out ++ assigned_text l.projects l.roll l.assigned
