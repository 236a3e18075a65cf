-- The names that most definitions and contracts here cite, passed on from one place. Declares nothing.
pub use Rattle.office_model.specs.Making.{changes_of}
pub use Rattle.office_model.specs.Rows.{Transforms, flag, import_cells, rows_in}
pub use Rattle.office_model.specs.State.{State, has_import}
pub use Rattle.office_model.specs.Stepping.{after_plain}
pub use Rattle.office_model.specs.declared.import.ImportKind.{ImportKind}
pub use Rattle.office_model.specs.declared.request.Plain.{Plain}
pub use Rattle.schema.specs.Changes.{TransformsRows, after_change}
pub use Rattle.schema.specs.Rows.{AllRows, Cells, RowOf, SameRows, begins, key_in}
pub use Rattle.schema.specs.declared.row.Change.{Change}
pub use Rattle.schema.specs.declared.row.Change.TheVariants.{Add, Put, Remove}
pub use Rattle.schema.specs.declared.table.Table.{Table}
pub use Rattle.schema.specs.declared.table.Table.TheVariants.{Choice, Import, Placement, Project, Round, RoundAim, Student, Supervisor}
pub use Rattle.std.specs.List.{AllByRecursion, list_any}
