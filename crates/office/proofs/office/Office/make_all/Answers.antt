use Rattle.office.proofs.ImportRows.{next_made}
use Rattle.office.proofs.office.Office.make_all.Goals as goal

pub loop-row-preserved : goal.loop-row-preserved
loop-row-preserved c =
    next_made c.args.rows.items c.loop-row.row-iterator.rest.items c.next.new.self.rest.items c.in-Some.row c.args.self.now c.loop-row.self c.loop-row.changes.items c.loop-row.number c.in-Some.ensures.steps.0 c.loop-row.invariant
    c.make.new.self c.in_ok-done.done c.append.new.self.items c.in_ok-done.ensures.done c.in_ok-done.ensures.changes c.in_ok-append.ensures.items
