use Rattle.std.proofs.Common.{ℕ, List, subst, rules}
use Rattle.round_files.specs.Rounds.{IsChecked}
use Rattle.cli.proofs.rounds.run_on_round.Goals as goal

pub returns-in-Solve : goal.returns-in-Solve
returns-in-Solve c = search rules

pub returns-in-Check : goal.returns-in-Check
returns-in-Check c = rw (c.in-Ok.is, c.in-Check.is) (subst (λ (t : List ℕ). IsChecked t c.checked.result) c.deref-in-Check.ensures.value c.checked.ensures)

pub returns-in-Ok : goal.returns-in-Ok
returns-in-Ok c = search rules
