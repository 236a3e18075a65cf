use Rattle.std.proofs.Common.{◌≡◌, ◌++◌, ◌-◌, length, replicate}
use Rattle.intake.proofs.draft.fill.Given as goal

abbrev pub invariant-loop : goal.invariant-loop
invariant-loop g l = l.list.items ≡ l.fn.list.items ++ replicate (l.counter - length l.fn.list.items) l.fn.value
