-- The names that most proofs here cite, passed on from one place. Declares nothing.
pub use Rattle.office.specs.changes.Allowed.{AreAllowed, IsAllowed, IsAllowedChange, IsKnown, IsNotChosen, IsPut, IsWithin}
pub use Rattle.office.specs.changes.Common.{ImportKind, Plain, Change, Add, Put, Remove, Table, Choice, Import, Placement, Project, Round, RoundAim, Student, Supervisor, AllByRecursion, list_any}
pub use Rattle.office.specs.changes.Laws.{ChangesAllowed, ChangesTransform, ImportsStay, RowsApart, RowsGiveOffice, StaysFit, TransformsFollow}
pub use Rattle.office_model.proofs.EntryChange.{all-put, bytes_self, find-put, is_equal, length-put, same_code}
pub use Rattle.office_model.proofs.Found.{found_key, holds_of_found}
pub use Rattle.office_model.proofs.LastRound.{aimed_found, aimed_kept, aimed_put, closed_before, closed_within, has_reading, last_after_opening, last_kept, last_open_after_opening, last_open_kept, next, no_round_above, numbered_after_opening, numbered_kept, other_after_opening, other_kept, other_round, reading_after_opening, reading_changed, reading_kept, round_number, rounds_rise, same_lists, same_round, some_round}
pub use Rattle.office_model.proofs.NoRefusal.{allowed}
pub use Rattle.office_model.proofs.Places.{below_all, find_below, keys_total, rises-filter, rises-put}
pub use Rattle.office_model.proofs.Same.{keys_exact, same_found}
pub use Rattle.office_model.proofs.Shaped.{IsShaped, fit_shaped}
pub use Rattle.office_model.specs.Fit.{AreEntries, ImportFits, IsFit, ListFits, PlacementFits, ProjectFits, StudentFits, SupervisorFits, are_aimed, are_numbered, is_distinct, only_last_open}
pub use Rattle.office_model.specs.Importing.{at_record, import_refusal, or_else, rows_refusal, with_import}
pub use Rattle.office_model.specs.Kinds.{word_of}
pub use Rattle.office_model.specs.Making.{changes_of, choices_added, list_changes, list_part, opening_changes, placed_part, put_or_added, reopening_changes, round_row}
pub use Rattle.office_model.specs.Refusing.{choice_tests, drop_tests, import_tests, is_moved, list_tests, opening_tests, plain_refusal, project_tests, reopening_tests, student_tests, supervisor_tests}
pub use Rattle.office_model.specs.Roll.{Key, by_order, find, has, is_below, key_cmp, put, put_all, rises, same_key, take_out}
pub use Rattle.office_model.specs.Rows.{Transforms, aim_cells, choice_cells, choice_rows, import_cells, is_generous, list_rows, placement_cells, project_cells, round_cells, rows_in, rows_of_round, student_cells, supervisor_cells}
pub use Rattle.office_model.specs.State.{State, aim_key, choices_in, has_import, has_list, has_project, has_student, has_supervisor, import_key, is_closed, is_offered_by, is_open, last_round, list_key, list_of, lists_of, placed_in_project, placed_with_supervisor, placement_key, placement_of, project_key, project_of, quota_with, round_key, round_of, student_key, supervisor_key}
pub use Rattle.office_model.specs.Stepping.{after_opening, after_plain, after_reopening, with_last}
pub use Rattle.office_model.specs.declared.TheConstants.{MAX_IMPORTS, MAX_IMPORT_BYTES, MAX_ROUNDS}
pub use Rattle.office_model.specs.declared.entries.Project.{Project as ProjectEntry}
pub use Rattle.office_model.specs.declared.entries.Student.{Student as StudentEntry}
pub use Rattle.office_model.specs.declared.entries.Supervisor.{Supervisor as SupervisorEntry}
pub use Rattle.office_model.specs.declared.import.Import.{Import as ImportEntry}
pub use Rattle.office_model.specs.declared.import.ImportKind.TheVariants.{Lists, Projects, Students, Supervisors}
pub use Rattle.office_model.specs.declared.refusal.Refusal.{Refusal}
pub use Rattle.office_model.specs.declared.request.Plain.TheVariants.{DropList, OpenRound, PutList, PutProject, PutStudent, PutSupervisor, ReopenRound}
pub use Rattle.office_model.specs.declared.rounds.Listed.{Listed}
pub use Rattle.office_model.specs.declared.rounds.Placement.{Placement as PlacementEntry}
pub use Rattle.office_model.specs.declared.rounds.Round.{Round as RoundEntry}
pub use Rattle.office_model.specs.declared.rounds.RoundAim.{RoundAim as AimEntry}
pub use Rattle.schema.specs.Changes.{AreFresh, IsFresh, TransformsRows, after_change, after_changes, changed, is_in_part, makes}
pub use Rattle.schema.specs.Rows.{AllRows, Cells, RowOf, SameRows, begins, key_in, keyed, same_cell, same_table}
pub use Rattle.schema.specs.declared.cell.Cell.TheVariants.{Bytes, Number, Text}
pub use Rattle.spa.specs.Text.{is_code, is_label}
pub use Rattle.spa.specs.declared.TheConstants.{MAX_PROJECTS, MAX_STUDENTS, MAX_SUPERVISORS, RANKS}
pub use Rattle.spa.specs.declared.aim.Aim.{Aim}
pub use Rattle.sqlite_keyed.proofs.ListLemmas.{IsPermutation-filter, IsPermutation-flat_map, IsPermutation-same, all-flat_map, all-map, all_of, all_weaker, any_from_none, filter-filter, filter-map, filter_all, filter_none, filter_same, flat_map-map, flat_map-one, none_counted, none_from_any}
pub use Rattle.std.proofs.Common.{Bool, List, None, Ok, Option, Some, [], ap, append-nil, append_assoc, arith, cond, drop, eqb, false, if◌then◌else◌, inl, inr, is_some, length, length-append, map, not, refl, slice_get, subst, suc, sym, take, true, true≢false, zero, ℕ, ◌*◌, ◌++◌, ◌+◌, ◌-◌, ◌<◌, ◌^◌, ◌∙◌, ◌∷◌, ◌≡◌, ◌≤◌, IsPermutation, count_by, filter, flat_map, nat_le, nat_lt, ◌&&◌, ◌==◌, ◌||◌}
pub use Rattle.std.proofs.lemmas.Bool.{and_from, and_left, and_right, cases_eq, eq-eqb, eqb-false, eqb-true, false_from_ne_true, leb-false, leb-true, not-true, or_from, or_left, or_parts, or_right}
pub use Rattle.std.proofs.lemmas.Bool.Decides.{nat_tests}
pub use Rattle.std.proofs.lemmas.List.Elements.{All-from_recursion, filter-append, filter_passes, recursion_from_All}
pub use Rattle.std.proofs.lemmas.List.Folds.{list_any-append}
pub use Rattle.std.proofs.lemmas.List.Sorted.{All-permutation, IsPermutation-append_left, IsPermutation-append_right, IsPermutation-cons, IsPermutation-map, IsPermutation-middle, IsPermutation-refl, IsPermutation-sym, IsPermutation-trans, length_permutation, list_any-IsPermutation}
pub use Rattle.std.proofs.lemmas.Map.Entries.{option_filter}
pub use Rattle.std.proofs.lemmas.Slice.Eq.{bytes_eq-Decides}
pub use Rattle.std.specs.Cmp.{first_so, nat_cmp_is, second_so}
pub use Rattle.std.specs.Option.{option_map_or}
pub use Rattle.std.specs.Ordering.{is_eq, is_lt, ordering_reverse, ordering_then}
pub use Rattle.std.specs.Str.{bytes_eq}
pub use Rattle.std.specs.declared.cmp.Ordering.{Ordering}
pub use Rattle.std.specs.declared.cmp.Ordering.TheVariants.{Equal, Greater, Less}
