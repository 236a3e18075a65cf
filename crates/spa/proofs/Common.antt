-- The names that most proofs here cite, passed on from one place. Declares nothing.
pub use Rattle.spa.specs.Coded.{CodePair, IsBestByCodes, IsMatchingByCodes, choices_of, codes_of, offerer_of, places_in, places_with, profile_by_codes, rank_by_codes, taken}
pub use Rattle.spa.specs.Codes.{AreApart, IsFirstRepeated, code_at}
pub use Rattle.spa.specs.Inside.Codes.{Finds, IsCodeFault, IsIndexTo}
pub use Rattle.spa.specs.Inside.Lex.{int_same, pair_of}
pub use Rattle.spa.specs.Inside.Made.{AreRankings, IsOfferFault, IsRanking}
pub use Rattle.spa.specs.Inside.Places.{lex_worth, places_of_same, row-places_of}
pub use Rattle.spa.specs.Inside.Reading.{read_alike}
pub use Rattle.spa.specs.Inside.Row.{greatest}
pub use Rattle.spa.specs.Instance.{Instance, Project, Student, Supervisor, project_codes, projects_of, student_codes, students_of, supervisor_codes, supervisors_of}
pub use Rattle.spa.specs.Made.{AreAllKnown, AreKnown, HasDistinctCodes, IsFirstInstanceFault, IsFirstListFault, IsFirstRepeatedIn, IsSoundList, IsSoundUpTo, IsWithin}
pub use Rattle.spa.specs.Matched.{HasPlaces, IsMatched, QuotasSuffice, in_project, pairs, with_supervisor}
pub use Rattle.spa.specs.Matching.{IsBest, IsMatching, IsUnbeaten, Pair, pairs_from, profile, rank, rank_in, weight, weight_row}
pub use Rattle.spa.specs.Named.{IsFit, Named, Names, instance_of, projects_named, students_named, supervisors_named}
pub use Rattle.spa.specs.Order.{Precedes, RowOrder, as_read, none, order, plus, ranks_read, sum_below}
pub use Rattle.spa.specs.Places.{Places, lex_ops, places_of, row}
pub use Rattle.spa.specs.Row.{at}
pub use Rattle.spa.specs.Shape.{IsPlaceOf, IsSound, Shape, choice_at, list_of, project_quota, supervisor_of, supervisor_quota}
pub use Rattle.spa.specs.Text.{has_label_bytes, is_code, is_code_byte, is_label, is_label_byte}
pub use Rattle.spa.specs.declared.TheConstants.{COMPONENTS, MAX_PROJECTS, MAX_QUOTA, MAX_SUPERVISORS, RANKS}
pub use Rattle.spa.specs.declared.aim.Aim.{Aim}
pub use Rattle.spa.specs.declared.aim.Aim.TheVariants.{Generous, Greedy}
pub use Rattle.std.proofs.lemmas.Bool.{cases_Bool, cases_eq, cases_lt, cases_order, eq-eqb, eqb-false, eqb-true, false≢true, ne_eqb}
pub use Rattle.std.proofs.lemmas.Bool.Decides.{nat_tests, not_from_Decides}
pub use Rattle.std.proofs.lemmas.Cmp.{by_ranked, int_ranked, tied_itself}
pub use Rattle.std.proofs.lemmas.Int.{by_lt_z, ints, to_z-of_z}
pub use Rattle.std.proofs.lemmas.List.{get_or-map, get_or-set_other, get_or-set_same, get_or_default, get_or_past, get_or_read, length-map, map_push, take_all, take_more}
pub use Rattle.std.proofs.lemmas.List.Elements.{All-from_recursion, All-push, recursion_from_All}
pub use Rattle.std.proofs.lemmas.List.Sums.{prefix_len_is, sum_by-cons}
pub use Rattle.std.proofs.lemmas.Result.{err_from_is_err_and}
pub use Rattle.std.proofs.lemmas.Slice.Eq.{bytes_eq-Decides}
pub use Rattle.std.proofs.lemmas.Str.{IsUtf8-from_ascii, IsUtf8-from_is_utf8, is_utf8-from_IsUtf8}
pub use Rattle.std.specs.Cmp.{first_so, int_cmp_is, second_so}
pub use Rattle.std.specs.List.{AllByRecursion, count_by, list_all, prefix_len}
pub use Rattle.std.specs.Ordering.{int_cmp, int_eq, is_gt, nat_cmp, ord_max, ordering_reverse, ordering_then}
pub use Rattle.std.specs.Prelude.{IsTrue, find, neg_ℤ, pos, ℤ, ◌+ℤ◌, ◌-ℤ◌, ◌<ℤ◌, ◌==◌}
pub use Rattle.std.specs.Str.{IsAscii, IsUtf8, bytes_eq, is_utf8}
pub use Rattle.std.specs.declared.cmp.Ordering.{Ordering}
pub use Rattle.std.specs.declared.cmp.Ordering.TheVariants.{Equal, Greater, Less}
