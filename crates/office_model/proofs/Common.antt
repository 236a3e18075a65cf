-- The names that most proofs here cite, passed on from one place. Declares nothing.
pub use Rattle.office_model.specs.Common.{AllByRecursion, insert, range_with_len, remove, option_map, option_map_or, bytes_eq}
pub use Rattle.office_model.specs.Common.{ProjectEntry as Project, Listed, PlacementEntry as Placement, RoundEntry as Round, AimEntry as RoundAim}
pub use Rattle.office_model.specs.Counted.{AreCounted, AreRolls, is_made_by, offers}
pub use Rattle.office_model.specs.Fit.{IsFit, ListFits, PlacementFits, are_aimed, are_numbered, only_last_open}
pub use Rattle.office_model.specs.Inside.Place.{IsAt, IsGapFor}
pub use Rattle.office_model.specs.Roll.{Key, by_order, find as entry, find, has, is_below, key_cmp, put, rises, same_key, take_out}
pub use Rattle.office_model.specs.State.{State, aim_key, choices_in, has_student, import_key, is_closed, is_open, last_round, list_key, list_of, lists_of, placement_key, project_key, round_key, round_of, student_key, supervisor_key}
pub use Rattle.std.proofs.Common.{Bool, Err, IfErr, IfOk, List, None, Ok, Option, Result, Some, [], ap, arith, cond, count_by, drop, false, get_or, inl, inr, is_some, length, map, not, refl, rules, set, slice_get, slice_index, subst, suc, sym, take, true, zero, ℕ, ◌++◌, ◌+◌, ◌-◌, ◌<◌, ◌∙◌, ◌∷◌, ◌≡◌, ◌≤◌, ◌⊎◌, T, ◌&&◌, ◌==◌, filter}
pub use Rattle.std.proofs.lemmas.Bool.{and_from, cases_Bool, cases_eq, cases_order, eq-eqb, eqb-true, false_from_ne_true}
pub use Rattle.std.proofs.lemmas.Bool.Decides.{nat_tests}
pub use Rattle.std.proofs.lemmas.Cmp.{alike_right, nat_cmp_total, nat_list_cmp_total, on_total, then_total}
pub use Rattle.std.proofs.lemmas.List.{get_or_default, take-append-drop}
pub use Rattle.std.proofs.lemmas.Option.{slice_get_cases, slice_get_past, slice_get_read}
pub use Rattle.std.specs.Cmp.{IsTotalOrder, first_so, nat_cmp_is, second_so}
pub use Rattle.std.specs.Ordering.{is_eq, is_lt, nat_cmp, ordering_reverse, ordering_then}
pub use Rattle.std.specs.declared.cmp.Ordering.{Ordering}
pub use Rattle.std.specs.declared.cmp.Ordering.TheVariants.{Equal, Greater, Less}
