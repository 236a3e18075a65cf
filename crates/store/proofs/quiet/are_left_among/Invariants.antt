use Rattle.store.proofs.Common.{Has, Table, IsLeftAlone, IsActedOnAt, take}
use Rattle.store.proofs.quiet.are_left_among.Given as goal

abbrev pub invariant-loop-table : goal.invariant-loop-table
invariant-loop-table l = (table : Table) → Has (take l.table-index l.tables) table → IsLeftAlone table l.schema × (IsActedOnAt table l.schema → ⊥)
