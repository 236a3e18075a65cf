-- The names that most proofs here cite, passed on from one place. Declares nothing.
pub use Rattle.office.proofs.changes.Keyed.{AreNew, all_beside}
pub use Rattle.office.proofs.changes.Rounds.{round_transforms}
pub use Rattle.office.specs.closing.Changes.{after_placing, close_changes, closing_changes, placed_reply, placement_added}
pub use Rattle.office.specs.closing.Common.{MayClose, after_close, kept, instance_left, round_instance, Transforms, placement_cells, rows_in, Project, Supervisor, Listed, Placement, Placement as PlacementEntry}
pub use Rattle.office.specs.closing.Inside.Handed.{project_left, student_listed, supervisor_left}
pub use Rattle.office.specs.closing.Laws.{ClosingAllowed, ClosingFew, ClosingTransforms, KeptIsCounted, PlacedIsKept, PlacesAreInLists, PlacesAreTaken, PlacesClose}
pub use Rattle.office.specs.closing.Places.{placed_at, placed_by}
pub use Rattle.office_model.proofs.EntryChange.{all-put, all_weaker, bytes_self, find-put, same_bytes, same_code}
pub use Rattle.office_model.proofs.Found.{found_key, holds_of_found}
pub use Rattle.office_model.proofs.LastRound.{aimed_kept, closed_before, has_reading, last_kept, last_open_kept, numbered_kept, open_within, other_kept, reading_changed, reading_kept, round_within, same_lists}
pub use Rattle.office_model.proofs.NoMoreThanFound.{all_above, all_two, few_lists, few_placed}
pub use Rattle.office_model.proofs.Places.{keys_total, rises-put}
pub use Rattle.office_model.specs.Counted.{AreCounted, count_in, count_with}
pub use Rattle.office_model.specs.Fit.{IsFit, ListFits, PlacementFits, ProjectFits, SupervisorFits, is_distinct}
pub use Rattle.office_model.specs.Roll.{Key, by_order, find as entry, find, is_below, key_cmp, of_code, put, put_all, rises, same_key}
pub use Rattle.office_model.specs.State.{State, choices_in, has_project, is_closed, is_offered_by, is_placed_before, last_round, list_key, list_of, lists_of, placed_in_project, placed_with_supervisor, placement_key, placement_of, project_key, project_of, quota_in, quota_with, round_of, supervisor_key, supervisor_of}
pub use Rattle.office_model.specs.Stepping.{by_rank, with_last}
pub use Rattle.schema.specs.Changes.{TransformsRows, after_change}
pub use Rattle.schema.specs.declared.row.Change.TheVariants.{Put}
pub use Rattle.spa.specs.Coded.{CodePair, IsBestByCodes, IsMatchingByCodes, choices_of, codes_of, offerer_of, places_in, places_with, profile_by_codes, rank_by_codes, taken}
pub use Rattle.spa.specs.Codes.{IsFirstRepeated, code_at}
pub use Rattle.spa.specs.Instance.{Instance, given, project_codes, projects_of, student_codes, students_of, supervisor_codes, supervisors_of}
pub use Rattle.spa.specs.Made.{AreDistinct, HasDistinctCodes, IsFirstInstanceFault, IsFirstListFault, IsListFault, IsSoundList, IsWithin}
pub use Rattle.std.proofs.Common.{Bool, Contains, List, None, Option, Some, [], ap, append_assoc, arith, cond, count_by, drop, false, get_or, inl, inr, length, map, not, option_map, refl, slice_get, slice_index_or, subst, suc, sym, true, true≢false, zero, ℕ, ◌++◌, ◌+◌, ◌-◌, ◌<◌, ◌∙◌, ◌∷◌, ◌≡◌, ◌≤◌, IsPermutation, is_some, nat_lt, ◌&&◌, ◌==◌}
pub use Rattle.std.proofs.lemmas.Bool.{cases_Bool, eq-eqb, false_from_ne_true, le-ltb, lt-ltb}
pub use Rattle.std.proofs.lemmas.List.{drop_more, length-append, length-map, map-append}
pub use Rattle.std.proofs.lemmas.List.Elements.{All-from_recursion, recursion_from_All}
pub use Rattle.std.proofs.lemmas.List.Sorted.{IsPermutation-map, IsPermutation-refl, length_permutation}
pub use Rattle.std.proofs.lemmas.List.Sums.{prefix_len_is, sum_by-cons}
pub use Rattle.std.proofs.lemmas.Option.{same_Some, slice_get-get_or, slice_get_read, slice_get_within}
pub use Rattle.std.proofs.lemmas.Slice.Eq.{bytes_eq-Decides}
pub use Rattle.std.specs.List.{AllByRecursion, list_any, prefix_len}
pub use Rattle.std.specs.Option.{MatchOption, option_map_or}
pub use Rattle.std.specs.Str.{bytes_eq}
pub use Rattle.std.specs.declared.cmp.Ordering.{Ordering}
pub use Rattle.std.specs.declared.cmp.Ordering.TheVariants.{Equal, Greater, Less}
