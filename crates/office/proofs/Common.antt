-- The names that most proofs here cite, passed on from one place. Declares nothing.
pub use Rattle.office.specs.changes.Changes.{changes_of_rows, import_changes, kept_placements}
pub use Rattle.office.specs.Common.{Imports, IsClosed, IsDone, IsFit, AllByRecursion, list_any}
pub use Rattle.office.specs.View.{state_of}
pub use Rattle.office_model.proofs.Found.{found_key}
pub use Rattle.office_model.proofs.NoRefusal.{allowed}
pub use Rattle.office_model.specs.Importing.{after_rows, at_record, import_refusal, or_else, rows_refusal, with_import}
pub use Rattle.office_model.specs.Instances.{instance_left, round_instance}
pub use Rattle.office_model.specs.Making.{changes_of, list_changes, list_part, opening_changes, put_or_added, reopening_changes}
pub use Rattle.office_model.specs.Refusing.{choice_tests, first, import_tests, list_tests, plain_refusal, reopening_tests}
pub use Rattle.office_model.specs.Roll.{Key, find, of_code, put, put_all, rises, take_out}
pub use Rattle.office_model.specs.Rows.{Transforms, import_cells, project_cells, student_cells, supervisor_cells}
pub use Rattle.office_model.specs.State.{State, aim_key, has_import, has_list, has_project, has_student, has_supervisor, import_key, import_of, is_offered_by, kept_rows, last_round, list_key, lists_of, placed_at_rank, placed_in_round, placement_key, project_key, round_is_open, round_key, round_of, student_key, supervisor_key}
pub use Rattle.office_model.specs.Stepping.{after_plain, by_rank, plain_reply, with_last}
pub use Rattle.office_model.specs.declared.TheConstants.{MAX_IMPORTS}
pub use Rattle.office_model.specs.declared.import.Import.{Import}
pub use Rattle.office_model.specs.declared.refusal.Refusal.{Refusal}
pub use Rattle.office_model.specs.declared.request.Done.{Done}
pub use Rattle.office_model.specs.declared.request.Plain.{Plain}
pub use Rattle.office_model.specs.declared.request.Plain.TheVariants.{DropList, OpenRound, PutList, PutProject, PutStudent, PutSupervisor, ReopenRound}
pub use Rattle.office_model.specs.declared.rounds.Listed.{Listed}
pub use Rattle.office_model.specs.declared.rounds.Placement.{Placement}
pub use Rattle.office_model.specs.declared.rounds.Round.{Round}
pub use Rattle.schema.specs.declared.row.Change.{Change}
pub use Rattle.schema.specs.declared.row.Change.TheVariants.{Add, Remove}
pub use Rattle.schema.specs.declared.table.Table.TheVariants.{Import as ImportTable, Project as ProjectTable, Student as StudentTable, Supervisor as SupervisorTable}
pub use Rattle.spa.specs.declared.TheConstants.{MAX_STUDENTS, RANKS}
pub use Rattle.std.proofs.Common.{Bor, IsTrue, None, Option, Some, [], ap, arith, drop, inl, inr, refl, rules, slice_index, subst, suc, sym, take, zero, ℕ, ◌++◌, ◌<◌, ◌∙◌, ◌∷◌, ◌≡◌, ◌≤◌, Bool, IfOk, List, Ok, count_by, false, if◌then◌else◌, is_some, length, nat_le, not, option_copied, true, ◌&&◌, ◌+◌, ◌==◌}
pub use Rattle.std.proofs.lemmas.List.{append_assoc, drop_more, take_more}
pub use Rattle.std.specs.Option.{option_map, option_map_or, unwrap_or}
pub use Rattle.std.specs.Str.{bytes_eq}
