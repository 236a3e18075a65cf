-- The names that most definitions and contracts here cite, passed on from one place. Declares nothing.
pub use Rattle.office_model.specs.Roll.{Key, find, has, of_code, put, put_all, rises, take_out}
pub use Rattle.office_model.specs.State.{State, aim_key, aim_of, choices_in, has_import, has_list, has_project, has_round, has_student, has_supervisor, import_key, import_of, is_closed, is_open, is_placed, is_placed_before, kept_rows, last_round, list_key, lists_of, open_choices, placed_at_rank, placed_in_project, placed_in_project_by, placed_in_round, placed_with_supervisor, placed_with_supervisor_by, placement_key, placement_of, project_key, project_of, quota_in, quota_with, round_is_open, round_key, round_of, student_key, student_of, supervisor_key, supervisor_of}
pub use Rattle.office_model.specs.declared.TheConstants.{MAX_IMPORTS, MAX_IMPORT_BYTES, MAX_ROUNDS}
pub use Rattle.office_model.specs.declared.entries.Project.{Project as ProjectEntry}
pub use Rattle.office_model.specs.declared.entries.Student.{Student as StudentEntry}
pub use Rattle.office_model.specs.declared.entries.Supervisor.{Supervisor as SupervisorEntry}
pub use Rattle.office_model.specs.declared.import.Import.{Import as ImportEntry}
pub use Rattle.office_model.specs.declared.import.ImportKind.{ImportKind}
pub use Rattle.office_model.specs.declared.refusal.Refusal.{Refusal}
pub use Rattle.office_model.specs.declared.request.Plain.{Plain}
pub use Rattle.office_model.specs.declared.request.Plain.TheVariants.{DropList, GetProject, GetRound, GetStudent, GetSupervisor, OpenRound, PutList, PutProject, PutStudent, PutSupervisor, ReopenRound}
pub use Rattle.office_model.specs.declared.request.Reply.{Reply}
pub use Rattle.office_model.specs.declared.request.Request.{Request}
pub use Rattle.office_model.specs.declared.rounds.Listed.{Listed}
pub use Rattle.office_model.specs.declared.rounds.Placement.{Placement as PlacementEntry}
pub use Rattle.office_model.specs.declared.rounds.Round.{Round as RoundEntry}
pub use Rattle.office_model.specs.declared.rounds.RoundAim.{RoundAim as AimEntry}
pub use Rattle.schema.specs.Rows.{AllRows, Cells, PartOf, RowOf, SameRows, of_table}
pub use Rattle.schema.specs.declared.cell.Cell.TheVariants.{Bytes, Number, Text}
pub use Rattle.schema.specs.declared.row.Change.{Change}
pub use Rattle.schema.specs.declared.table.Table.TheVariants.{Choice, Import, Placement, Project, Round, RoundAim, Student, Supervisor}
pub use Rattle.spa.specs.Coded.{CodePair, IsMatchingByCodes, profile_by_codes, rank_by_codes}
pub use Rattle.spa.specs.Counted.{Counted}
pub use Rattle.spa.specs.Instance.{Instance}
pub use Rattle.spa.specs.Text.{is_code, is_label}
pub use Rattle.spa.specs.declared.TheConstants.{MAX_CODE_BYTES, MAX_LABEL_BYTES, MAX_PROJECTS, MAX_QUOTA, MAX_STUDENTS, MAX_SUPERVISORS, RANKS}
pub use Rattle.spa.specs.declared.aim.Aim.{Aim}
pub use Rattle.spa.specs.declared.aim.Aim.TheVariants.{Generous, Greedy}
pub use Rattle.std.specs.List.{AllByRecursion, insert, list_any, range_with_len, remove}
pub use Rattle.std.specs.Option.{option_map, option_map_or, unwrap_or}
pub use Rattle.std.specs.Prelude.{Bool, IsTrue, List, Option, codes, false, length, map, true, ℕ}
pub use Rattle.std.specs.Str.{bytes_eq}
