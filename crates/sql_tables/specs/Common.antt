-- The names that most definitions and contracts here cite, passed on from one place. Declares nothing.
pub use Rattle.schema.specs.Rows.{Cells, are_of, key_in, kinds_of, shared_by, shared_kinds}
pub use Rattle.schema.specs.declared.row.Group.{Group}
pub use Rattle.schema.specs.declared.table.Table.{Table}
pub use Rattle.sqlite.specs.Collation.TheVariants.{Binary}
pub use Rattle.sqlite.specs.Does.{Does, lacks_sequence}
pub use Rattle.sqlite.specs.Edit.{Applies, Edit, IsOversized, IsRefused, id_in, with_rowid}
pub use Rattle.sqlite.specs.Effect.{Database, IsDatabase}
pub use Rattle.sqlite.specs.Held.{Held, state}
pub use Rattle.sqlite.specs.Kind.{Kind}
pub use Rattle.sqlite.specs.Order.{Row, column, value_cmp}
pub use Rattle.sqlite.specs.Schema.{Schema}
pub use Rattle.sqlite.specs.State.{CommitsShowing, Executes, ExecutesInside, FailsToQuery, HasCleanDisk, IsNotRun, IsUnchanged, KeepsCommit, Savepoint, Shown, Shows as Sees, State, Survives, text_of}
pub use Rattle.sqlite.specs.Table.{Table as AnyTable}
pub use Rattle.sqlite.specs.Tree.{IsAscending, IsTable, Trees, rowid}
pub use Rattle.sqlite.specs.declared.error.Error.{Error}
pub use Rattle.sqlite.specs.declared.types.Value.TheVariants.{Blob as Bytes, Int, Null, Text as Words}
pub use Rattle.sqlite_rules.specs.Lists.{Has}
pub use Rattle.sqlite_schema.specs.Names.{same_name, table_named}
pub use Rattle.sqlite_schema.specs.Rules.{Refers, equal, kind_code}
pub use Rattle.sqlite_schema.specs.declared.schema.Action.TheVariants.{NoAction}
pub use Rattle.sqlite_schema.specs.declared.schema.Column.{Column}
pub use Rattle.sqlite_schema.specs.declared.schema.Index.{Index}
pub use Rattle.sqlite_schema.specs.declared.schema.Keys.TheVariants.{Enforced}
pub use Rattle.sqlite_schema.specs.declared.schema.Reference.{Reference}
pub use Rattle.sqlite_trees.specs.View.{is_int}
pub use Rattle.sqlite_trees.specs.declared.store.Store.{Ghosts}
pub use Rattle.sqlite_value.specs.Value.{owned}
pub use Rattle.sqlite_value.specs.declared.keys.Order.{Order}
pub use Rattle.std.specs.List.{AllByRecursion, list_all, list_any}
pub use Rattle.std.specs.List.Sorted.{IsPermutation, IsSorted}
pub use Rattle.std.specs.Option.{option_map_or}
pub use Rattle.std.specs.Prelude.{List, codes, map, ℕ, ℤ}
pub use Rattle.std.specs.Str.{bytes_eq}
pub use Rattle.sql_tables.specs.declared.fault.TableFault.{TableFault}
pub use Rattle.sql_tables.specs.declared.fault.TableFault.TheVariants.{Memory, Storage}
pub use Rattle.sql_tables.specs.declared.statements.Entering.{Entering}
pub use Rattle.sql_tables.specs.declared.statements.Entering.TheVariants.{InPlace, New}
