use Rattle.std.proofs.Common.{◌≡◌, ℕ, ◌<◌, List, ◌++◌, drop, get_or, string_bytes}
use Rattle.intake.proofs.Common.{IsTrue, is_code}
use Rattle.intake.proofs.RestOfText.{student_text}
use Rattle.intake.proofs.write.write_students.Given as goal

abbrev pub invariant-loop-s : goal.invariant-loop-s
invariant-loop-s l = record {
  text : string_bytes l.out ++ student_text l.instance.project_codes (drop l.s l.instance.student_codes) (drop l.s l.instance.shape.students)
      ≡ string_bytes l.fn.out ++ student_text l.instance.project_codes l.instance.student_codes l.instance.shape.students;
  form : (k : ℕ) (d : List ℕ) → k < l.s → IsTrue (is_code (get_or l.instance.student_codes k d));
}
