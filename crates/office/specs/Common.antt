-- The names that most definitions and contracts here cite, passed on from one place. Declares nothing.
pub use Rattle.office.specs.changes.Changes.{changes_of_rows, import_changes}
pub use Rattle.office_model.specs.Answers.{Answers, Imports, IsClosed, IsDone}
pub use Rattle.office_model.specs.Fit.{ImportFits, IsFit}
pub use Rattle.office_model.specs.Importing.{after_rows, rows_refusal, with_import}
pub use Rattle.office_model.specs.Making.{changes_of, put_or_added}
pub use Rattle.office_model.specs.Refusing.{choice_tests, first, import_tests, is_moved, is_other_import, open_tests, opening_tests, plain_refusal, refusal_of, round_tests}
pub use Rattle.office_model.specs.Rows.{AreRowsOf, Transforms, project_cells, student_cells, supervisor_cells}
pub use Rattle.office_model.specs.State.{State, aim_key, aim_of, empty, has_import, has_project, kept_rows, last_round, list_of, lists_of, open_choices, placed_in_project, placed_with_supervisor, placement_of, round_is_open, round_of}
pub use Rattle.office_model.specs.Stepping.{by_rank, plain_reply}
pub use Rattle.std.specs.List.{AllByRecursion, list_any}
