use Rattle.store.proofs.Common.{Has, Table, IsLeftAlone, IsActedOnAt, ◌≡◌, length, true≢false, refl, sym, ◌∙◌, arith}
use Rattle.store.proofs.ListedTables.{so_far, of_each, is_next}
use Rattle.store.proofs.Among.{is_among, stands_among}
use Rattle.store.proofs.quiet.are_left_among.Goals as goal

pub loop-table-preserved : goal.loop-table-preserved
loop-table-preserved c =
    so_far (λ table. IsLeftAlone table c.args.schema.now × (IsActedOnAt table c.args.schema.now → ⊥)) c.args.tables.now c.loop-table.table-index _ c.loop-table-test.true c.loop-table.invariant
    (c.is_left.ensures.sound c.if-not-is_left.false, λ acted. true≢false (sym c.if-not-is_left.false ∙ c.is_left.ensures.exact.1 acted))

pub returns-then-not-is_left-clause-exact : goal.returns-then-not-is_left-clause-exact
returns-then-not-is_left-clause-exact c =
    let next = is_next c.args.tables.now c.loop-table.table-index _ c.loop-table-test.true in
    (λ h. (_, is_among c.args.tables.now _ next, c.is_left.ensures.exact.0 c.if-not-is_left.true), λ acted. refl)

-- what holds of each of them
each : (c : goal.After-loop-table) (table : Table) → Has c.args.tables.now table → IsLeftAlone table c.args.schema.now × (IsActedOnAt table c.args.schema.now → ⊥)
each c table among =
    let end : c.loop-table.table-index ≡ length c.args.tables.now = omega arith in
    of_each (λ table. IsLeftAlone table c.args.schema.now × (IsActedOnAt table c.args.schema.now → ⊥)) c.args.tables.now c.loop-table.table-index end c.loop-table.invariant table among

pub returns-clause-sound : goal.returns-clause-sound
returns-clause-sound c h table among = (each c table (stands_among c.args.tables.now table among)).0

pub returns-clause-exact : goal.returns-clause-exact
returns-clause-exact c = (λ h. absurd (true≢false h), λ acted. absurd ((each c acted.0 (stands_among c.args.tables.now acted.0 acted.1)).1 acted.2))
