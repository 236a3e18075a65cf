-- The names that most proofs here cite, passed on from one place. Declares nothing.
pub use Rattle.office.proofs.changes.Changes.{after_both, by_table, change_elsewhere, change_here, AreFree, fresh_both, nothing_transforms}
pub use Rattle.office.proofs.changes.Same.{from_same, to_same}
pub use Rattle.office_model.specs.Fit.{ImportFits, IsFit, ListFits, PlacementFits, ProjectFits, StudentFits, SupervisorFits, are_aimed}
pub use Rattle.office_model.specs.Kinds.{word_of}
pub use Rattle.office_model.specs.Rows.{AreRowsOf, aim_cells, choice_rows, flag, import_cells, is_generous, list_rows, placement_cells, project_cells, round_cells, rows_in, rows_of_round, student_cells, supervisor_cells}
pub use Rattle.office_model.specs.State.{State, choices_in, empty, has_project, has_student, has_supervisor, list_key, list_of, project_key, project_of, round_key, round_of, student_key, student_of, supervisor_key, supervisor_of, aim_key}
pub use Rattle.office_model.specs.declared.import.ImportKind.TheVariants.{Lists as OfLists, Projects, Students, Supervisors}
pub use Rattle.office_model.specs.declared.import.ImportKind.{ImportKind}
pub use Rattle.office_model.specs.declared.rounds.RoundAim.{RoundAim as AimEntry}
pub use Rattle.schema.proofs.Tables.{same_table_is, same_table_self}
pub use Rattle.schema.specs.Changes.{AreFresh, IsFresh, after_change, after_changes, changed, is_in_part, makes, table_of}
pub use Rattle.schema.specs.Rows.{AllRows, Cells, IsPart, IsRow, PartOf, RowOf, SameRows, are_of, begins, is_of, key_in, kinds_of, of_table, same_cell, same_table, shared_by, shared_kinds, keyed}
pub use Rattle.schema.specs.declared.table.Table.TheVariants.{Choice, Edition, Import, Placement, Project, Round, RoundAim, Student, Supervisor}
pub use Rattle.spa.specs.declared.aim.Aim.TheVariants.{Generous, Greedy}
pub use Rattle.sqlite.proofs.StateLemmas.{survives_then, survives_weaker}
pub use Rattle.sqlite.specs.Order.{Row as Values, column, value_cmp}
pub use Rattle.sqlite.specs.State.{HasCleanDisk, IsLive, IsUnchanged, State as Seen, Survives}
pub use Rattle.sqlite.specs.Tree.{Trees, has_rowid, rowid, without_rowid}
pub use Rattle.sqlite.specs.declared.types.Value.TheVariants.{Blob, Int, Null, Text as Words}
pub use Rattle.sqlite.specs.declared.types.Value.{Value}
pub use Rattle.sqlite_keyed.proofs.ListLemmas.{IsPermutation-filter, IsPermutation-same, all-flat_map, all-map, all_map, all_weaker, along_permutation, filter-map, filter_same, map_back, all-filter, all_both, all_unmap, filter-filter, filter_none, map-map}
pub use Rattle.sqlite_rules.proofs.ListLemmas.{all_has, has_at, has_either, has_filtered, has_got, has_kept, has_left, has_right, some_from, some_has}
pub use Rattle.sqlite_schema.specs.Rules.{agree, equal, passes_checks}
pub use Rattle.sqlite_value.proofs.OrderLemmas.{value_cmp-Blob, value_cmp-Int, value_cmp-Text, value_cmp-apart, value_cmp_total}
pub use Rattle.std.proofs.Common.{Bool, Err, IfErr, IsTrue, IsUtf8, List, None, Ok, OnErr, OnOk, Option, Result, Some, [], ap, append-nil, arith, codes, cond, drop, filter, get_or, if◌then◌else◌, inl, inr, is_eq, is_some, length, map, nat_lt, negsuc, not, pos, refl, rules, slice_get, subst, subst₂, suc, sym, take, true, true≢false, zero, ℕ, ℤ, ◌++◌, ◌+◌, ◌-◌, ◌<◌, ◌^◌, ◌↔◌, ◌∙◌, ◌∷◌, ◌≡◌, ◌≢◌, ◌≤◌, ◌⊎◌, false, ◌&&◌, ◌==◌, ◌||◌}
pub use Rattle.std.proofs.lemmas.Bool.Decides.{Decides-eqb, nat_tests}
pub use Rattle.std.proofs.lemmas.Bool.{and_from, and_parts, cases_Bool, eqb-true, false_from_ne_true, not-true, or_parts, or_left, or_right}
pub use Rattle.std.proofs.lemmas.List.Elements.{All-from_recursion, filter-append, filter_passes, recursion_from_All}
pub use Rattle.std.proofs.lemmas.List.Sorted.{IsPermutation-map, IsPermutation-sym, IsPermutation-trans, length_permutation, All-permutation, IsPermutation-middle, IsPermutation-refl}
pub use Rattle.std.proofs.lemmas.List.{drop-map, get_or_default, map-append, take_all, take_more}
pub use Rattle.std.specs.Cmp.{Equal-is, first_so, int_cmp_is, second_so}
pub use Rattle.std.specs.List.Sorted.{IsPermutation}
pub use Rattle.std.specs.List.{AllByRecursion, list_all, list_any}
pub use Rattle.std.specs.Option.{option_map_or}
pub use Rattle.std.specs.Ordering.{int_cmp}
pub use Rattle.store.specs.Causes.{IsHinderedAmong, IsHinderedOpening, IsHinderedReading, IsHinderedToMigrate, applying, creating, latest_number, migrating, task_of}
pub use Rattle.store.specs.Common.{Edition as AnEdition, AnyCell as Cell, Bytes, Number, Text, Change, Add, Put, Remove, Table, Database, IsDatabase, Held, state, Schema, AnyTable, Has, IsActedOn, Stands, each_of, leaving, making}
pub use Rattle.store.specs.Editions.{IsEarlier, beyond, latest, migrated, number_of, rolls_of}
pub use Rattle.store.specs.Inside.Reading.{HaveNoLater, migrated_rows, IsEditionOf, AreReadRows, AskMigrated, FindsOffice, HoldsColumns, HoldsNoRow, HoldsRows, HoldsUnread, IsAlone, IsElsewhere, IsListedAlone, IsNoRow, IsTyped, IsTypedRow, ReadsAll, ReadsCells, ReadsSome, ReadsTable}
pub use Rattle.store.specs.Migration.{AreRowsIn, aims_of, is_old, migrating_changes, olds, removal_of, renamed, renamed_row, renaming_changes, rows_in_edition, Allows, aim_of_round, aim_row, is_old_table}
pub use Rattle.store.specs.Reading.{AreAllListed, IsDamaged, IsUnfitIn}
pub use Rattle.store.specs.Rows.{IsAmong, IsRollTable, all_tables, rolls, value_of, values}
pub use Rattle.store.specs.Saving.{AllNeed, AreActedOnAmong, AreInert, AreLeftAmong, IsActedOnAt, IsLeftAlone, IsSaving, Needs, Saves, Spares}
pub use Rattle.store.specs.Tables.{AreRuled, Brings, HasNone, HasNoneOf, HoldIn, MakesTables, Migrates, Opens, StandsFor, StandsIn, TablesHold, TablesOf, numbered}
pub use Rattle.store.specs.declared.edition.Edition.TheVariants.{First, Second, Third}
pub use Rattle.store.specs.declared.fault.StoreFault.TheVariants.{Damaged, Storage}
pub use Rattle.sql_tables.proofs.Causes.{stopped_after, stopped_as, stopped_before}
pub use Rattle.sql_tables.proofs.KeyTests.{equal_int, rowid_is}
pub use Rattle.sql_tables.proofs.Made.{enters, leaves}
pub use Rattle.sql_tables.proofs.Ours.{IsGiven, IsLow, IsNumber, fits, free, inert_here, is_first_of, stays_entered, stays_left}
pub use Rattle.sql_tables.proofs.Outcomes.{did_all, known_so, one_and_rest, runs_more, runs_runs, runs_steps, runs_stopped, steps_runs}
pub use Rattle.sql_tables.proofs.Runs.{decide_table, listed_at_one, listed_once, low_tree, part_err, part_none, rests_then, stands_apart, stands_beside, stands_kept, stays_none, survives_both, survives_none}
pub use Rattle.sql_tables.specs.Causes.{CanFind, IsCaused, IsMade, IsRefusedIn, IsStopped, IsUnread, OfEntry, adding, changing, replacing}
pub use Rattle.sql_tables.specs.Inside.Steps.{Runs, Stays}
pub use Rattle.sql_tables.specs.Layout.{IsListed, IsUnlisted, is_there}
pub use Rattle.sql_tables.specs.Steps.{HasSaved, HasStepped, IsKept, IsReading, MayRecoverTo, Rests, Shows}
pub use Rattle.sql_tables.specs.Table.{Lists, Place, cells, laid_out, made_here, rules_of, shape_of, table_at}
pub use Rattle.sql_tables.specs.Writes.{Adds, Creates, Enters, Leaves, WritesOnly, begins_with, goes_on, with_row}
pub use Rattle.sql_tables.specs.declared.fault.TableFault.{TableFault}
pub use Rattle.sql_tables.specs.declared.statements.Entering.TheVariants.{InPlace, New}
