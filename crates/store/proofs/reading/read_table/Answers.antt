use Rattle.store.proofs.Common.{Has, Err, sym, ap, subst, ◌∙◌}
use Rattle.store.proofs.Readings.{reads_as, of_storage}
use Rattle.store.proofs.ListedTables.{holds_none}
use Rattle.store.proofs.reading.read_table.Goals as goal

pub returns-clause-damaged : goal.returns-clause-damaged
returns-clause-damaged g c clean h =
    let found = c.rows_with.ensures.damaged h in
    let shows = c.in_ok-cells.ensures.rows clean in
    (shows.same.0.was_open, holds_none _ _ found.0 _ _ shows (subst (λ all. Has all found.0) c.as_slice.ensures.value found.1) found.2)

pub returns-in_err-cells-clause-reads : goal.returns-in_err-cells-clause-reads
returns-in_err-cells-clause-reads g c =
    reads_as _ _ _ _ _ _ _ (λ h. c.in_err-cells.was ∙ ap Err (of_storage _ (sym (rw h at c.from_residual.ensures.1)))) c.read.ensures.reads
