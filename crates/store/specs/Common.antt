-- The names that most definitions and contracts here cite, passed on from one place. Declares nothing.
pub use Rattle.store.specs.Migration.{Allows, AreRowsIn, migrating_changes, olds, rows_in_edition}
pub use Rattle.store.specs.declared.edition.Edition.{Edition}
pub use Rattle.office_model.specs.Fit.{IsFit}
pub use Rattle.office_model.specs.Rows.{AreRowsOf, rows_in}
pub use Rattle.office_model.specs.State.{State, empty}
pub use Rattle.schema.specs.Changes.{AreFresh, after_change, after_changes, changed}
pub use Rattle.schema.specs.Rows.{AllRows, Cells, IsPart, IsRow, RowOf, SameRows, are_of, is_of, of_table}
pub use Rattle.schema.specs.declared.cell.Cell.{Cell as AnyCell}
pub use Rattle.schema.specs.declared.cell.Cell.TheVariants.{Bytes, Number, Text}
pub use Rattle.schema.specs.declared.row.Change.{Change}
pub use Rattle.schema.specs.declared.row.Change.TheVariants.{Add, Put, Remove}
pub use Rattle.schema.specs.declared.table.Table.{Table}
pub use Rattle.schema.specs.declared.table.Table.TheVariants.{Edition as EditionTable}
pub use Rattle.sqlite.specs.Effect.{Database, IsDatabase}
pub use Rattle.sqlite.specs.Held.{Held, state}
pub use Rattle.sqlite.specs.Order.{Row as Values, column}
pub use Rattle.sqlite.specs.Schema.{Schema}
pub use Rattle.sqlite.specs.State.{HasCleanDisk, IsLive, IsUnchanged, State as Seen, Survives}
pub use Rattle.sqlite.specs.Table.{Table as AnyTable}
pub use Rattle.sqlite.specs.Tree.{Trees}
pub use Rattle.sqlite.specs.declared.types.Value.TheVariants.{Int}
pub use Rattle.sqlite_rules.specs.Lists.{Has}
pub use Rattle.sqlite_trees.specs.declared.store.Store.{Ghosts}
pub use Rattle.std.specs.List.{AllByRecursion}
pub use Rattle.std.specs.Prelude.{List, Option, drop, ℕ}
pub use Rattle.store.specs.declared.fault.StoreFault.{StoreFault}
pub use Rattle.store.specs.declared.fault.StoreFault.TheVariants.{Damaged, Memory, Storage}
pub use Rattle.sql_tables.specs.Causes.{IsCaused, IsStopped, IsUnread}
pub use Rattle.sql_tables.specs.Inert.{IsActedOn}
pub use Rattle.sql_tables.specs.Inside.Steps.{Runs}
pub use Rattle.sql_tables.specs.Keyed.{Stands}
pub use Rattle.sql_tables.specs.Layout.{IsListed, is_there}
pub use Rattle.sql_tables.specs.Outcomes.{Outcome, each_of, entry, followed_by, leaving, making, of_known}
pub use Rattle.sql_tables.specs.Steps.{HasSaved, IsKept, IsReading, MayRecoverTo, Steps}
pub use Rattle.sql_tables.specs.Table.{Lists, Place, made_here, rules_of, shape_of, table_at}
