use Rattle.office.proofs.ImportRows.{IsUnderWay}
use Rattle.office.proofs.office.Office.make_all.Given as goal

-- the rows before the rest were made
abbrev pub invariant-loop-row : goal.invariant-loop-row
invariant-loop-row l = IsUnderWay l.fn.rows.items l.row-iterator.rest.items l.fn.self l.self l.changes.items l.number
