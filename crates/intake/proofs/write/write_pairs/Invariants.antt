use Rattle.std.proofs.Common.{◌≡◌, ◌++◌, drop, string_bytes}
use Rattle.intake.proofs.RestOfText.{pair_text}
use Rattle.intake.proofs.write.write_pairs.Given as goal

abbrev pub invariant-loop-s : goal.invariant-loop-s
invariant-loop-s l =
    string_bytes l.out ++ pair_text l.instance.project_codes (drop l.s l.instance.student_codes) (drop l.s l.instance.shape.students) (drop l.s l.places)
    ≡ string_bytes l.fn.out ++ pair_text l.instance.project_codes l.instance.student_codes l.instance.shape.students l.places
