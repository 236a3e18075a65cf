use Rattle.std.proofs.Common.{◌≡◌, ℕ, ◌<◌, List, ◌++◌, drop, get_or, string_bytes}
use Rattle.intake.proofs.Common.{IsTrue, is_code}
use Rattle.intake.proofs.RestOfText.{project_text}
use Rattle.intake.proofs.write.write_projects.Given as goal

abbrev pub invariant-loop-p : goal.invariant-loop-p
invariant-loop-p l = record {
  text : string_bytes l.out ++ project_text l.supervisors (drop l.p l.roll) (drop l.p l.projects) ≡ string_bytes l.fn.out ++ project_text l.supervisors l.roll l.projects;
  form : (k : ℕ) (d : List ℕ) → k < l.p → IsTrue (is_code (get_or l.roll k d));
}
