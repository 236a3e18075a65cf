use Rattle.office.proofs.closing.Common.{◌≡◌, ◌++◌, drop}
use Rattle.office.proofs.closing.making.codes_of.Given as goal

abbrev pub invariant-loop-code : goal.invariant-loop-code
invariant-loop-code l = l.copies.items ++ drop l.code-index l.code-items ≡ l.choices
