-- The names that most proofs here cite, passed on from one place. Declares nothing.
pub use Rattle.intake.specs.Parts.{Rise}
pub use Rattle.reports.specs.Inside.Texts.{AreLoads, is_named, own_rows, project_row, rows_of}
pub use Rattle.reports.specs.Texts.{left, load_row, placement_line, places_left, rank_row, right, state_word, student_line}
pub use Rattle.reports.specs.declared.places_report.Places.{Places}
pub use Rattle.reports.specs.declared.places_report.Places.TheVariants.{Loads, Offers}
pub use Rattle.office_model.specs.Roll.{Key, code_cmp, is_below, key_cmp, rises}
pub use Rattle.office_model.specs.State.{State, list_key, lists_of, placed_at_rank, placed_in_project_by, placed_in_round, placed_with_supervisor_by, project_key, round_key, supervisor_key}
pub use Rattle.office_model.specs.declared.entries.Project.{Project}
pub use Rattle.office_model.specs.declared.entries.Supervisor.{Supervisor}
pub use Rattle.office_model.specs.declared.rounds.Placement.{Placement}
pub use Rattle.office_model.specs.declared.rounds.Round.{Round}
pub use Rattle.spa.specs.declared.TheConstants.{RANKS}
pub use Rattle.std.proofs.lemmas.Bool.{eq-eqb, eqb-true}
pub use Rattle.std.proofs.lemmas.Option.{slice_get_read}
pub use Rattle.std.specs.Cmp.{first_so, second_so}
pub use Rattle.std.specs.Fmt.{decimal, format_spec, is_char_start, styled_decimal, styled_text}
pub use Rattle.std.specs.List.{flat_map, list_all, range_with_len, repeat}
pub use Rattle.std.specs.Option.{option_map_or}
pub use Rattle.std.specs.Prelude.{All, encode_utf8}
pub use Rattle.std.specs.Str.{bytes_eq}
