use Rattle.office.proofs.from_rows.Common.{◌≡◌, ◌++◌, drop}
use Rattle.office.proofs.from_rows.draft.one_more.Given as goal

abbrev pub invariant-loop-code : goal.invariant-loop-code
invariant-loop-code l = l.codes.items ++ drop l.code-index l.before ≡ l.before
