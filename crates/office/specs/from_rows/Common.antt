-- The names that most definitions and contracts here cite, passed on from one place. Declares nothing.
pub use Rattle.office.specs.declared.from_rows.fault.RowsFault.TheVariants.{Memory, Unfit}
pub use Rattle.office_model.specs.Fit.{IsFit, are_aimed, are_numbered, is_distinct, only_last_open}
pub use Rattle.office_model.specs.Roll.{Key, find, has, of_code, put}
pub use Rattle.office_model.specs.State.{State, aim_key, choices_in, empty, has_project, has_student, has_supervisor, import_key, is_closed, is_placed_before, list_key, placed_in_project, placed_with_supervisor, placement_key, project_key, round_key, round_of, student_key, supervisor_key}
pub use Rattle.office_model.specs.declared.TheConstants.{MAX_IMPORTS, MAX_IMPORT_BYTES, MAX_ROUNDS}
pub use Rattle.office_model.specs.declared.rounds.Listed.{Listed}
pub use Rattle.office_model.specs.declared.rounds.Placement.{Placement}
pub use Rattle.office_model.specs.declared.rounds.Round.{Round}
pub use Rattle.schema.specs.Rows.{Cells, RowOf}
pub use Rattle.schema.specs.declared.cell.Cell.TheVariants.{Bytes, Number, Text}
pub use Rattle.spa.specs.Text.{is_code, is_label}
pub use Rattle.spa.specs.declared.TheConstants.{MAX_PROJECTS, MAX_QUOTA, MAX_STUDENTS, MAX_SUPERVISORS, RANKS}
pub use Rattle.std.specs.List.{filter, list_all, list_any}
pub use Rattle.std.specs.Option.{option_and_then, option_map, option_map_or}
pub use Rattle.std.specs.Str.{bytes_eq}
