use Rattle.office.proofs.Common.{list_any, bytes_eq, ◌≡◌, ℕ, List, drop}
use Rattle.office.proofs.office.judging.stands_in.Given as goal

abbrev pub invariant-loop-other : goal.invariant-loop-other
invariant-loop-other l = record {
  same : list_any (bytes_eq l.text) l.texts ≡ list_any (bytes_eq l.text) (drop l.other-index l.texts);
  turned : (other : List ℕ) → bytes_eq other l.text ≡ bytes_eq l.text other;
}
