-- The names that most proofs here cite, passed on from one place. Declares nothing.
pub use Rattle.office.proofs.changes.Found.{StandsIn, each_found}
pub use Rattle.office.proofs.changes.KeyTests.{and_true, code_test, number_test}
pub use Rattle.office.proofs.changes.Keyed.{added_beside, begins_both, begins_self, found_beside, none_taken, put_beside}
pub use Rattle.office.proofs.changes.OnRolls.{IsListed, known_code, listed, project_code, student_code}
pub use Rattle.office.specs.from_rows.Common.{MAX_IMPORTS, MAX_ROUNDS, Listed, Placement as PlacementEntry, Round, Round as RoundEntry, Bytes, Number, Text, is_code, is_label, MAX_PROJECTS, MAX_QUOTA, MAX_STUDENTS, MAX_SUPERVISORS, RANKS, option_and_then, option_map, option_map_or, bytes_eq}
pub use Rattle.office.specs.from_rows.Inside.Decoded.{aim_in, aim_of, flag_in, import_in, import_of, kind_in, placement_in, project_in, round_in, student_in, supervisor_in, where_so}
pub use Rattle.office.specs.from_rows.Inside.Gathering.{after_cells, after_row, at_stage, choices_among, gathered, place_in, stage_in, stage_of, staged, stages, with_choice, with_new, with_next}
pub use Rattle.office.specs.from_rows.Inside.Whole.{are_few, are_offered, are_rounds, are_within, is_list, is_placement, is_whole}
pub use Rattle.office.specs.from_rows.View.{drafted}
pub use Rattle.office_model.proofs.EntryChange.{all-put, bytes_self, find-put, find-take_out, same_bytes}
pub use Rattle.office_model.proofs.Found.{found_key, holds_of_found}
pub use Rattle.office_model.proofs.Places.{rises-filter, rises-put}
pub use Rattle.office_model.proofs.Shaped.{IsShaped, fit_shaped, numbered_rise}
pub use Rattle.office_model.specs.Fit.{ImportFits, IsFit, ListFits, PlacementFits, ProjectFits, StudentFits, SupervisorFits, are_aimed, are_numbered, is_distinct, only_last_open}
pub use Rattle.office_model.specs.Roll.{Key, find, has, put, rises, same_key, take_out}
pub use Rattle.office_model.specs.Rows.{AreRowsOf, aim_cells, choice_cells, choice_rows, import_cells, is_generous, list_rows, placement_cells, project_cells, round_cells, rows_in, rows_of_round, student_cells, supervisor_cells}
pub use Rattle.office_model.specs.State.{State, aim_key, choices_in, empty, has_project, has_round, has_student, has_supervisor, import_key, is_closed, is_offered_by, is_placed_before, list_key, lists_of, placed_in_project, placed_with_supervisor, placement_key, project_key, project_of, quota_in, quota_with, round_key, round_of, student_key, supervisor_key, supervisor_of}
pub use Rattle.office_model.specs.declared.entries.Project.{Project as ProjectEntry}
pub use Rattle.office_model.specs.declared.entries.Student.{Student as StudentEntry}
pub use Rattle.office_model.specs.declared.entries.Supervisor.{Supervisor as SupervisorEntry}
pub use Rattle.office_model.specs.declared.import.Import.{Import as ImportEntry}
pub use Rattle.office_model.specs.declared.rounds.RoundAim.{RoundAim as AimEntry}
pub use Rattle.schema.specs.Rows.{Cells, RowOf, begins, key_in, keyed, of_table, same_cell, same_table}
pub use Rattle.schema.specs.declared.table.Table.{Table}
pub use Rattle.schema.specs.declared.table.Table.TheVariants.{Choice, Import, Placement, Project, RoundAim, Student, Supervisor}
pub use Rattle.sqlite_keyed.proofs.ListLemmas.{IsPermutation-filter, IsPermutation-flat_map, IsPermutation-same, all-flat_map, all_both, all_from_test, all_map, all_of, all_weaker, any_from_none, none_counted, none_from_any, test_from_all}
pub use Rattle.std.proofs.Common.{Bool, Err, List, None, Ok, Option, Result, Some, [], ap, append-nil, append_assoc, arith, cond, count_by, drop, false, filter, get_or, is_some, length, map, not, refl, slice_get, subst, suc, sym, true, zero, ℕ, ◌++◌, ◌+◌, ◌-◌, ◌<◌, ◌∙◌, ◌∷◌, ◌≡◌, ◌≢◌, ◌≤◌, IsPermutation, IsTrue, flat_map, nat_le, ◌&&◌, ◌==◌, ◌||◌}
pub use Rattle.std.specs.Prelude.{⊤}
pub use Rattle.std.proofs.lemmas.Bool.{and_from, eq-eqb}
pub use Rattle.std.proofs.lemmas.Bool.Decides.{nat_tests}
pub use Rattle.std.proofs.lemmas.List.{length-append}
pub use Rattle.std.proofs.lemmas.List.Elements.{All-from_recursion, filter-append, filter_passes, recursion_from_All}
pub use Rattle.std.proofs.lemmas.List.Sorted.{All-permutation, IsPermutation-append_left, IsPermutation-append_right, IsPermutation-cons, IsPermutation-map, IsPermutation-middle, IsPermutation-refl, IsPermutation-sym, IsPermutation-trans, length_permutation, list_any-IsPermutation}
pub use Rattle.std.proofs.lemmas.Option.{slice_get_read, slice_get_within}
pub use Rattle.std.specs.Cmp.{first_so, second_so}
pub use Rattle.std.specs.List.{AllByRecursion, list_all, list_any}
