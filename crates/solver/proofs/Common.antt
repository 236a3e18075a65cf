-- The names that most proofs here cite, passed on from one place. Declares nothing.
pub use Rattle.network.specs.Seen.{ArePrices, IsAdmission, IsPriced, Seen, arc_count as arcs, has_seat, is_place, multiple, node_count as nodes, price as worth_price, price_total, shape_of, sum_of, total_worth, worth_at}
pub use Rattle.network.specs.declared.TheConstants.{LARGEST_PRICE}
pub use Rattle.solver.specs.Inside.Kept.{IsNetworkKept}
pub use Rattle.solver.specs.Inside.Solved.{AreNumbersOf, ArePricesOf, IsOf}
pub use Rattle.solver.specs.Inside.Weights.{weighed, weighed_from, worth_of}
pub use Rattle.solver.specs.Kept.{session_of}
pub use Rattle.solver.specs.SessionState.{IsAdmitted, SessionState, session_arcs, session_nodes, with_list}
pub use Rattle.spa.proofs.Aims.{aim_sums, best_from_unbeaten, read_sum}
pub use Rattle.spa.proofs.Places.{count_none, left_none, left_some, rank_of_place, rest_some}
pub use Rattle.spa.specs.Inside.Places.{places_of_same, row-places_of}
pub use Rattle.spa.specs.Inside.Reading.{read_alike, read_twice}
pub use Rattle.spa.specs.LexLaw.{IsLexicographic}
pub use Rattle.spa.specs.Matched.{HasPlaces, IsMatched, pairs}
pub use Rattle.spa.specs.Matching.{IsBest, IsMatching, IsUnbeaten, Pair, pairs_from, profile, rank, rank_in, weight, weight_row}
pub use Rattle.spa.specs.Order.{IsSettled, Precedes, as_read, none, order, plus, ranks_read, sum_below}
pub use Rattle.spa.specs.Places.{Places, lex_ops, places_of, row}
pub use Rattle.spa.specs.Prices.{ProveBest, value}
pub use Rattle.spa.specs.Row.{at}
pub use Rattle.spa.specs.Shape.{IsPlaceOf, IsSound, Shape, choice_at, list_of, project_quota, supervisor_of, supervisor_quota}
pub use Rattle.spa.specs.declared.TheConstants.{COMPONENTS, MAX_STUDENTS, RANKS}
pub use Rattle.spa.specs.declared.aim.Aim.{Aim}
pub use Rattle.spa.specs.declared.aim.Aim.TheVariants.{Generous, Greedy}
pub use Rattle.std.proofs.lemmas.Bool.{cases_eq, cases_lt, eq-eqb, false≢true, ne_eqb}
pub use Rattle.std.proofs.lemmas.Int.{ints}
pub use Rattle.std.proofs.lemmas.List.{get_or-replicate, get_or_append_left, get_or_default, get_or_past, get_or_push, length-map, length-replicate, length-take-le, length_push, map-append, map_push, take_all, take_more}
pub use Rattle.std.proofs.lemmas.List.Sums.{sum_by-cons}
pub use Rattle.std.proofs.lemmas.Option.{get_or_from_slice_get, slice_get-get_or}
pub use Rattle.std.proofs.lemmas.Result.{IfOk-from_err}
pub use Rattle.std.specs.Prelude.{IfSome, neg_ℤ, suc, unsigned_abs, zero, ◌-◌}
pub use Rattle.verdict.specs.Rows.{AllInRange, IsBoundedBy, price}
pub use Rattle.verdict.specs.Verdict.{HasShape, IsProvedBest}
