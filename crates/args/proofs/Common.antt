-- The names that most proofs here cite, passed on from one place. Declares nothing.
pub use Rattle.clap.proofs.WalkLemmas.{first_value-rows, list_any-map}
pub use Rattle.clap.specs.Faults.{action_fault, built_fault, bundle_step_fault, entered_fault, flag_word_fault, level_fault, long_fault, other_fault, react_fault, set_fault, settle_fault, short_fault, step_fault, stray_fault, turn_fault, use_fault, word_fault}
pub use Rattle.clap.specs.Simple.{Shape, argument_words, built, entered, filled, help_rule, label_of, names_of, rows_at, with_index}
pub use Rattle.clap.specs.Walk.{Held, Names, Outcome, Rule, Step, Waiting, Walk, action_of, after_flag, after_step, answers_to, arg_by_id, arg_by_index, arg_by_long, arg_by_short, bundle_step, default_rows, done, finished, first_of, has_long, has_row, has_short, idle, is_multiple, is_pending, long_or_other, long_word, more_values, next, nothing_held, option, plain, plain_word, positional, reading_by, refused, rows_after, settled, settled_rows, short_or_plain, subcommand, subcommand_met, subcommand_or_other, takes_several, takes_values, to_positional, trailing, used, used_as, used_by_id, value, values_or_missing, waits, walk, walk_from, walked_from, with_default, with_values, without, word_met}
pub use Rattle.clap.specs.Words.{App, HasMatchesOf, IsAmong, Kinds as ErrorKinds, Row, Text, app_of, fault_of, found_of, is_simple_and_free, kind_of, new_app, rows_of, subcommand_of, subcommand_rows_of, with_rule, with_subcommand}
pub use Rattle.clap.specs.declared.error.kind.ErrorKind.{ErrorKind}
pub use Rattle.args.specs.Inside.Reading.{IsFaultAs, IsNumberBelow, IsReportedBy}
pub use Rattle.args.specs.Inside.Table.{argument_by, told_by}
pub use Rattle.args.specs.Kinds.{import_kinds, report_kinds, report_word}
pub use Rattle.args.specs.Program.{AreWords, parser_of, program, program_name, rule_by, with_argument, with_line}
pub use Rattle.args.specs.Reading.{AreGiven, Each, HasOne, IsFaultOf, IsGiven, IsLineOf, ReadsLine, fits, word_in}
pub use Rattle.args.specs.Table.{Argument, DeclaredLine, aim, count, database, choices, file, further, id, import_kind, lines, needs, port, report_kind, round, student}
pub use Rattle.args.specs.declared.program.Kinds.{Kinds}
pub use Rattle.args.specs.declared.table.Takes.{Takes}
pub use Rattle.args.specs.declared.table.Takes.TheVariants.{Aim, ImportKind, Number, ReportKind, Word}
pub use Rattle.office_model.specs.Kinds.{word_of}
pub use Rattle.std.proofs.lemmas.Slice.Eq.{bytes_eq-Decides}
pub use Rattle.std.specs.List.{list_any}
pub use Rattle.std.specs.Prelude.{IsOk, IsSome, IsSomeAnd, option_and_then, option_map, slice_get}
pub use Rattle.std.specs.Str.{bytes_eq, chars}
