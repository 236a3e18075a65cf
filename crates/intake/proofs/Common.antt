-- The names that most proofs here cite, passed on from one place. Declares nothing.
pub use Rattle.intake.specs.Inside.Entries.{Adds, AddsEntry, AddsIn, AddsLine, AddsOne, AddsPrice, ComesNext, Entry, HasNoPairs, HasNoProjects, HasNoStudents, IsNext, MayComeNext, NextAim, NextEntry, NextPair, NextPosition, NextPrice, NextProject, NextStudent, NextSupervisor, StandsAfter, added, letter_of, with_entry, zeros}
pub use Rattle.intake.specs.Inside.PartialRound.{AreComplete, AreFirst, ArePricedInOrder, AreUnpriced, HasLine, HasNoPrices, IsBare, IsCompleted, IsDraft, IsDraftReading, IsFree, IsWhole, NoneOrAll, draft_of, nothing}
pub use Rattle.intake.specs.Lines.{Priced, Row, Section, aim_rows, choice_code, ended, has_line, instance_sections, instance_text, is_zero_price, line, lines_of, pair_row, pair_rows, price_row, price_rows, price_section, priced, project_row, public_text, round_text, row_before, rows_where, section_lines, sections, student_letter, student_row, supervisor_row, text_of}
pub use Rattle.intake.specs.Parts.{ArePartsOf, ArePricesOrNone, ArePricesUpTo, IsInstance, IsListOf, IsPlace, IsPrice, IsPublicText, IsRoll, IsRoundParts, Parts, Rise, code_cmp, least_listed, most_listed}
pub use Rattle.intake.specs.Reading.{BeginsLines, IsFaultOf, IsFirstBadLine, IsReadBack, IsReading, pieces}
pub use Rattle.intake.specs.Public.{IsPublicParts, IsPublicReading, posted_parts, public_read, assigned_list}
pub use Rattle.intake.specs.View.{alone, parts_read, proved, written}
pub use Rattle.intake.specs.declared.TheConstants.{MAX_BYTES}
pub use Rattle.intake.specs.declared.section.Kind.{Kind}
pub use Rattle.intake.specs.declared.section.Kind.TheVariants.{Round, Public}
pub use Rattle.intake.specs.declared.section.SectionName.{SectionName}
pub use Rattle.intake.specs.declared.section.SectionName.TheVariants.{Aims, Pairs, ProjectPrices, Projects, StudentPrices, Students, SupervisorPrices, Supervisors}
pub use Rattle.spa.proofs.CodeLists.{apart_more}
pub use Rattle.spa.proofs.Places.{slice_get_at}
pub use Rattle.spa.proofs.RollLists.{contained_code, known_more, same_position}
pub use Rattle.spa.proofs.Texts.{code_bytes, code_utf8}
pub use Rattle.spa.specs.Codes.{AreApart, IsFirstRepeated, code_at}
pub use Rattle.spa.specs.Inside.Codes.{Finds}
pub use Rattle.spa.specs.Instance.{Instance, Project, Student, Supervisor, given, project_codes, projects_of, student_codes, students_of, supervisor_codes, supervisors_of}
pub use Rattle.spa.specs.Made.{AreKnown, IsFirstInstanceFault, IsFirstListFault, IsFirstUnknown, IsListFault, IsSoundList, IsSoundUpTo, IsWithin}
pub use Rattle.spa.specs.Matched.{HasPlaces, IsMatched}
pub use Rattle.spa.specs.Named.{IsFit, Named, instance_of, projects_named, students_named, supervisors_named}
pub use Rattle.spa.specs.Shape.{IsPlaceOf, choice_at, list_of}
pub use Rattle.spa.specs.Text.{is_code, is_code_byte}
pub use Rattle.spa.specs.declared.TheConstants.{COMPONENTS, MAX_PROJECTS, MAX_QUOTA, MAX_STUDENTS, MAX_SUPERVISORS, RANKS}
pub use Rattle.spa.specs.declared.aim.Aim.{Aim}
pub use Rattle.spa.specs.declared.aim.Aim.TheVariants.{Generous, Greedy}
pub use Rattle.spa.specs.declared.code.Code.{Code}
pub use Rattle.std.proofs.lemmas.Bool.{cases_Bool, cases_lt, cases_order, eqb-false, eqb-true, ne_eqb}
pub use Rattle.std.proofs.lemmas.Bool.Decides.{nat_tests, not_from_Decides}
pub use Rattle.std.proofs.lemmas.Fmt.{IsAscii-decimal, IsAscii-signed, decimal_by_steps, decimal_digit, decimal_injective, length-decimal-le, length_signed_le, parse-decimal, parse-signed_decimal, signed_decimal_injective}
pub use Rattle.std.proofs.lemmas.Int.{ints, to_z-of_z, to_z_pos}
pub use Rattle.std.proofs.lemmas.List.{append_cancel_right, drop-drop, drop_all, drop_more, get_or-drop, get_or-map, get_or-replicate, get_or_append_left, get_or_at, get_or_default, get_or_read, length-append, length-drop, length-map, length-replicate, length-take-le, length_push, map-append, map_push, nil_from_length, replicate_more, take-append-drop, take-append-le, take_all, take_at, take_more, take_rest}
pub use Rattle.std.proofs.lemmas.List.Concat.{flat_map-append}
pub use Rattle.std.proofs.lemmas.List.Elements.{All-append, All-cons, All-contains, All-head, All-map, All-nil, All-push, All-replicate, All-tail}
pub use Rattle.std.proofs.lemmas.List.Splits.{join_with_byte-slice_split, length-slice_split, slice_split-cons_no, slice_split-cons_yes, slice_split_at, slice_split_none}
pub use Rattle.std.proofs.lemmas.Option.{get_or_from_slice_get, slice_get-map, slice_get_read, slice_get_within}
pub use Rattle.std.proofs.lemmas.Result.{IfOk-weaker, err_from_is_err_and}
pub use Rattle.std.proofs.lemmas.Simd.{map-map}
pub use Rattle.std.proofs.lemmas.Slice.Eq.{bytes_eq-Decides}
pub use Rattle.std.specs.Cmp.{first_so, second_so}
pub use Rattle.std.specs.Fmt.{signed_decimal}
pub use Rattle.std.specs.List.{AllZip, join_with_byte, list_all, onto_first, slice_split}
pub use Rattle.std.specs.Prelude.{AllPairs, Bool, IsTrue, nat_le, option_map, slice_index, true, ⊤, ◌&&◌, ◌-ℤ◌, ◌==◌}
pub use Rattle.std.specs.Str.{IsUtf8, bytes_eq}
pub use Rattle.std.specs.declared.cmp.Ordering.TheVariants.{Equal, Greater, Less}
pub use Rattle.verdict.specs.Rows.{AllInRange, EachInRange, InRange}
pub use Rattle.verdict.specs.Verdict.{HasShape}
pub use Rattle.verdict.specs.declared.prices.Prices.{Prices}
pub use denote.Ref.{Bor}
