use Rattle.store.specs.Inside.Reading.{IsHinderedReadingIn}
use Rattle.store.proofs.Common.{HasCleanDisk, state, IsReading, ReadsSome, Storage, Ok}
use Rattle.store.proofs.reading.read_rows.Given as goal

abbrev pub invariant-loop-table : goal.invariant-loop-table
invariant-loop-table g l =
    let old = state g.S.Store l.fn.conn in
    let now = state g.S.Store l.conn in
    record {
      reading : IsReading {A = Unit {0}} Storage (IsHinderedReadingIn l.fn.edition) (Ok tt) old now;
      reads : HasCleanDisk now → ReadsSome l.tables l.table-index l.rows.items old now;
    }
