use Rattle.office.proofs.Common.{AllByRecursion, has_project, ◌≡◌, IsTrue, drop, take}
use Rattle.office.proofs.office.Office.codes_of.Given as goal

abbrev pub invariant-loop-text : goal.invariant-loop-text
invariant-loop-text l = (l.codes.items ≡ take l.text-index l.texts) × AllByRecursion (λ p. IsTrue (has_project l.self p)) (drop l.text-index l.texts)
