-- The names that most proofs here cite, passed on from one place. Declares nothing.
pub use Rattle.schema.specs.Rows.{Cells, are_of, keyed, kinds_of, shared_by, shared_kinds}
pub use Rattle.schema.specs.declared.cell.Kind.{Kind}
pub use Rattle.schema.specs.declared.row.Group.TheVariants.{Key, List as OfList, Placed}
pub use Rattle.schema.specs.declared.table.Table.TheVariants.{Choice, Edition, Import, OldChoice, OldPlacement, Placement, Project, Round, RoundAim, Student, Supervisor}
pub use Rattle.sqlite.proofs.Callers.{one_step}
pub use Rattle.sqlite.proofs.StateLemmas.{survives_then, survives_weaker}
pub use Rattle.sqlite.specs.Calls.{IsWrite}
pub use Rattle.sqlite.specs.Cast.{cast, cast_row}
pub use Rattle.sqlite.specs.Change.{created, is_used, next_tree}
pub use Rattle.sqlite.specs.Clock.{timed as at_time}
pub use Rattle.sqlite.specs.Command.{Command}
pub use Rattle.sqlite.specs.Command.TheVariants.{Begin, Commit, CreateIndex, CreateTable, CreateTable as MakesTable, CreateView, Delete, DropIndex, DropTable, DropView, Insert, InsertOr, Nothing, Release, Rollback, RollbackTo, Update}
pub use Rattle.sqlite.specs.Compile.{command, compiled, first, is_attached, is_reserved, new_rows, on_table, returning, small, table_defined_by, target, timed, with_command}
pub use Rattle.sqlite.specs.Does.{Concludes, Does, MakesSequence, OnRows, Tally, WritesRows, lacks_sequence, sequence_text}
pub use Rattle.sqlite.specs.Edit.{Applies, Edit, IsOversized, IsRefused, are_fresh, edit_of, edited, have_rowids, id_in, is_taken, left_by, next_rowid, numbered, put_all, taken_by, with_rowid, without_all}
pub use Rattle.sqlite.specs.Effect.{Answers, Database, IsDatabase, Reads, RefusesToRead, is_query, value_rows}
pub use Rattle.sqlite.specs.Kind.TheVariants.{Any, Blob, Integer, Real, Text}
pub use Rattle.sqlite.specs.Listing.{IsSourceOf, if_select, is_select, listing_schema, reads_listing, understood}
pub use Rattle.sqlite.specs.Program.{overlay}
pub use Rattle.sqlite.specs.Rowids.TheVariants.{Chosen, Given}
pub use Rattle.sqlite.specs.Rows.{Deletes, Inserts, Outcome, Queried, Sourced, Task, Updates, Written, shown}
pub use Rattle.sqlite.specs.Source.TheVariants.{Values}
pub use Rattle.sqlite.specs.State.{CommitsShowing, Executes, ExecutesInside, Fails, HasCause as HasReason, HasCleanDisk, IsMisplaced, IsNoStatement, IsNotRun, IsRolledBack, IsStatement, IsUnchanged, KeepsCommit, Runs, RunsAlone, RunsCommand, State, Survives, is_pragma, mode_of, shows_rows, store_error, text_of}
pub use Rattle.sqlite.specs.Term.{Term, col, lit}
pub use Rattle.sqlite.specs.Tree.{IsAscending, IsTable, Trees, has_rowid, put_row, rowid, with_tree, without_rowid}
pub use Rattle.sqlite.specs.Values.{bound}
pub use Rattle.sqlite.specs.declared.run.Mode.{Mode}
pub use Rattle.sqlite.specs.declared.types.Value.{Value}
pub use Rattle.sqlite_ast.specs.declared.Core.{Core, out-Core, roll-Core}
pub use Rattle.sqlite_ast.specs.declared.Expr.{Expr}
pub use Rattle.sqlite_ast.specs.declared.Rows.{Rows}
pub use Rattle.sqlite_ast.specs.declared.Select.{Select, out-Select, roll-Select}
pub use Rattle.sqlite_ast.specs.declared.Statement.{Statement}
pub use Rattle.sqlite_ast.specs.declared.TableBody.{TableBody}
pub use Rattle.sqlite_catalog.proofs.StepLemmas.{same_itself, table_below}
pub use Rattle.sqlite_catalog.specs.Calls.{CreatesTable, RefusesTable}
pub use Rattle.sqlite_catalog.specs.Change.{KeepsRows, automatics}
pub use Rattle.sqlite_catalog.specs.Listing.{IsIndexRow, IsSound, IsTableRow, automatic, is_fit, is_formed, is_table_row}
pub use Rattle.sqlite_draft.specs.declared.query.Draft.{Draft}
pub use Rattle.sqlite_keyed.proofs.ListLemmas.{IsPermutation-filter, all-filter, all_map, all_weaker, along_permutation, any_from_none, ascending-filter, filter_same, map-map}
pub use Rattle.sqlite_resolve.specs.Body.{bounds, matching, result}
pub use Rattle.sqlite_resolve.specs.Expr.{lower}
pub use Rattle.sqlite_resolve.specs.Lowering.{Checked, and_then, fresh, max_budget}
pub use Rattle.sqlite_resolve.specs.Program.{Building, Shown, lift, or_view, sources}
pub use Rattle.sqlite_resolve.specs.Select.{outermost}
pub use Rattle.sqlite_resolve.specs.Write.{deleted, updated}
pub use Rattle.sqlite_resolve.specs.declared.compiled.Compiled.{Compiled}
pub use Rattle.sqlite_resolve.specs.declared.error.CompileError.TheVariants.{Exists, Mismatch, Misuse, NoSuchTable, Unsupported}
pub use Rattle.sqlite_resolve.specs.declared.scope.Output.{Output}
pub use Rattle.sqlite_rules.proofs.ListLemmas.{all_from, all_has, fails_from, fails_has, has_either, has_filtered, has_found, has_got, has_kept, some_from, some_has, test_from, test_has}
pub use Rattle.sqlite_rules.proofs.PlaceLemmas.{named_parent, tied_same}
pub use Rattle.sqlite_rules.proofs.RuleLemmas.{Turns, origin, refers_at, refers_from, refers_same, unique_kept}
pub use Rattle.sqlite_rules.proofs.TableLemmas.{int_is, put_all_adds, put_all_has, put_all_keeps, without_all_has}
pub use Rattle.sqlite_rules.specs.Action.{Leads, Writes, deed_for, pairs, work_by, work_for, works}
pub use Rattle.sqlite_rules.specs.Calls.{ids_of}
pub use Rattle.sqlite_rules.specs.Steps.{PassAlone, is_present, is_typed}
pub use Rattle.sqlite_rules.specs.declared.action.Deed.{Deed}
pub use Rattle.sqlite_rules.specs.declared.error.Refusal.{Refusal}
pub use Rattle.sqlite_schema.specs.Names.{index_named, same_name, table_named, view_named}
pub use Rattle.sqlite_schema.specs.Program.{lets_of}
pub use Rattle.sqlite_schema.specs.Rules.{Obeys, ParentKey, Refers, agree, clashes, declared_order, differ, equal, guards, has_null, has_parent, index_reals, is_held, is_index_for, is_key_if_to, is_key_of, is_unique_key, key_in, key_places, kind_code, parent_key, passes_checks, references_fit, table_reals}
pub use Rattle.sqlite_schema.specs.declared.command.Returning.{Returning}
pub use Rattle.sqlite_schema.specs.declared.program.Program.{Program}
pub use Rattle.sqlite_schema.specs.declared.schema.Among.TheVariants.{All}
pub use Rattle.sqlite_sql.specs.Ops.{fits_i64, from_truth, is_true}
pub use Rattle.sqlite_sql.specs.Term.{Env, eval_all, holds, op1, op2}
pub use Rattle.sqlite_syntax.specs.declared.statement.Parsed.{Parsed}
pub use Rattle.sqlite_trees.specs.View.{IsStorable, is_int}
pub use Rattle.sqlite_typing.specs.Types.{accepts_program, accepts_terms}
pub use Rattle.sqlite_value.proofs.OrderLemmas.{value_cmp-Int, value_cmp_total}
pub use Rattle.sqlite_value.specs.Keys.{plain}
pub use Rattle.sqlite_value.specs.Order.{bytes, number}
pub use Rattle.std.proofs.Common.{Bool, Equal, Err, Greater, IfOk, IsErrAnd, IsTrue, IsUtf8, Less, List, MatchBool, None, Ok, Option, Ordering, Result, Some, Vec, [], ap, append-nil, append_assoc, arith, codes, cond, drop, false, filter, find, fold, get_or, if◌then◌else◌, inl, inr, int_cmp, is_ge, is_le, is_some, length, length-append, map, nat_le, nat_lt, negsuc, not, option_and_then, option_map, pos, refl, rules, slice_get, slice_index_or, slice_range, subst, subst₂, suc, sum_by, sym, take, take-append-drop, true, true≢false, unwrap_or, zero, ℕ, ℤ, ◌&&◌, ◌*◌, ◌++◌, ◌+ℤ◌, ◌+◌, ◌-◌, ◌/◌, ◌<◌, ◌==◌, ◌^◌, ◌||◌, ◌↔◌, ◌∙◌, ◌∷◌, ◌≡◌, ◌≢◌, ◌≤◌, ◌⊎◌, zip}
pub use Rattle.std.specs.Prelude.{⊤}
pub use Rattle.std.proofs.lemmas.Bool.{and_cases, and_from, and_left, and_parts, and_right, both_ways, cases_Bool, cases_eq, false_from_ne_true, ne_eqb, not-false, not-true, not_from_false, or_cases, or_from, or_left, or_parts, or_right}
pub use Rattle.std.proofs.lemmas.Bool.Decides.{Decides-eqb, Decides-ltb, nat_tests}
pub use Rattle.std.proofs.lemmas.Cmp.{eq_by_cmp_equiv, tied_itself}
pub use Rattle.std.proofs.lemmas.Iterator.{YieldsList-from_slice, YieldsList-from_zip, cases_from_all}
pub use Rattle.std.proofs.lemmas.List.{drop_more, map-append, map-id, take-map, take_all}
pub use Rattle.std.proofs.lemmas.List.Folds.{find_at, list_any-append}
pub use Rattle.std.proofs.lemmas.List.Sorted.{IsPermutation-append_left, IsPermutation-append_right, IsPermutation-cons, IsPermutation-map, IsPermutation-middle, IsPermutation-refl, IsPermutation-sym, IsPermutation-trans, answers_always, list_any-IsPermutation, ranks_by}
pub use Rattle.std.specs.Cmp.{Equal-is, first_so, second_so}
pub use Rattle.std.specs.List.{AllByRecursion, AllWithin, AllZip, HoldsAt, filter_map, flat_map, list_all, list_any, position_from, position_or_len}
pub use Rattle.std.specs.Option.{option_map_or, option_or}
pub use Rattle.std.specs.Ordering.{is_eq, is_lt, is_ne, match_ordering, ordering_reverse}
pub use Rattle.std.specs.Str.{IsAscii, bytes_eq}
pub use Rattle.sql_tables.specs.Causes.{CanEnter, CanFind, FailsToRead, FailsToWrite, IsMade, IsRefusedIn, IsStopped, IsTableMade, IsUnmade, IsUnread, LacksMemory, Moment, OfChange, OfEntry, OfLeaving, OfRow, ShowsInOrder, adding, at_moment, by_rowid, changing, replacing}
pub use Rattle.sql_tables.specs.Common.{Group, Table as Ours, Binary, state, Row, column, value_cmp, Schema, AnyTable, AnyTable as Table, Error, Bytes, Int, Null, Words, Has, NoAction, Index, Enforced, Reference, Order, IsPermutation, IsSorted}
pub use Rattle.sql_tables.specs.Common.{TableFault, Memory, Storage, Entering, InPlace, New}
pub use Rattle.sql_tables.specs.Faults.{fault_of}
pub use Rattle.sql_tables.specs.Inert.{IsActedOn}
pub use Rattle.sql_tables.specs.Inside.Causes.{IsHindered, IsText, IsWriteOf, plain_mode}
pub use Rattle.sql_tables.specs.Inside.Steps.{id_of, HasRun, RanQuery, Stays}
pub use Rattle.sql_tables.specs.Inside.Layout.{IsTableNamed, are_of_one, are_plain, are_strict, are_declared, has_shape, is_alone, is_bare, is_binary, is_nothing, is_referring, is_required, is_untimed, place_of, same_key}
pub use Rattle.sql_tables.specs.Inside.Table.{column_by, entering, link_by, places_by, removal}
pub use Rattle.sql_tables.specs.Keyed.{IsKeyed, Stands, have_ids, rises}
pub use Rattle.sql_tables.specs.Layout.{IsListed}
pub use Rattle.sql_tables.specs.Ours.{HasRoom, IsOurs, IsOwnIndex}
pub use Rattle.sql_tables.specs.Steps.{HasStepped, IsPart, Rests, Shows}
pub use Rattle.sql_tables.specs.Table.{Lists, Place, Rules, Sql, TableShape, all_referring, all_tables, ascending, between, cells, checks_of, choices, kind_in, laid_out, made_at, made_here, referring, required, rules_of, same_table, shape_of, sql_of, table_at, value_of, values as sql_values, values}
pub use Rattle.sql_tables.specs.Writes.{Adds, Creates, Enters, IsInert, Leaves, WritesOnly, begins_with, goes_on, with_row}
