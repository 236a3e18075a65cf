use Rattle.office.proofs.Common.{first, choice_tests, ◌≡◌, [], take, drop}
use Rattle.office.proofs.office.Office.choice_refusal.Given as goal

abbrev pub invariant-loop-place : goal.invariant-loop-place
invariant-loop-place l = first (choice_tests l.self [] l.choices) ≡ first (choice_tests l.self (take l.place l.choices) (drop l.place l.choices))
