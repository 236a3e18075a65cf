use Rattle.std.proofs.Common.{◌≡◌, ℕ, ◌<◌, List, ◌++◌, drop, get_or, string_bytes}
use Rattle.intake.proofs.Common.{IsTrue, is_code}
use Rattle.intake.proofs.RestOfText.{supervisor_text}
use Rattle.intake.proofs.write.write_supervisors.Given as goal

abbrev pub invariant-loop-l : goal.invariant-loop-l
invariant-loop-l l = record {
  text : string_bytes l.out ++ supervisor_text (drop l.l l.roll) (drop l.l l.quotas) ≡ string_bytes l.fn.out ++ supervisor_text l.roll l.quotas;
  form : (k : ℕ) (d : List ℕ) → k < l.l → IsTrue (is_code (get_or l.roll k d));
}
