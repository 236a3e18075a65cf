-- The names that most proofs here cite, passed on from one place. Declares nothing.
pub use Rattle.public_result.specs.Posted.{IsFirstBetter, IsFirstFailure, IsFirstOwnFailure, IsListed, IsNotBelow, IsRow, AreContent, IsCleared, IsContent, IsList, IsNothing, IsPostOf, IsRoomFree, IsKnown, IsPlaced, HasPrices, IsWithinQuotas, PostedIsBest, PostsAreAccepted, chosen, assigned_at, cost, holding, in_project, offerer, assigned_pairs, assigned, with_lists, with_supervisor, worth}
pub use Rattle.public_result.specs.declared.posted.Posted.{Posted}
pub use Rattle.spa.proofs.Duality.{IsSumOrder, NoLater, best_from_prices, each_from, listed_project, listed_student, total_weight_is}
pub use Rattle.spa.proofs.PairsOf.{within_all}
pub use Rattle.spa.proofs.Places.{rank_at}
pub use Rattle.spa.proofs.Sums.{sum_of, sum_of-by_key}
pub use Rattle.spa.proofs.Aims.{aim_sums, best_from_unbeaten}
pub use Rattle.spa.specs.Matching.{IsBest, IsMatching, Pair, rank, rank_in, weight, weight_row}
pub use Rattle.spa.proofs.Aims.{RowAtMost_same}
pub use Rattle.spa.proofs.Orders.{RowAtMost, after, at_most_from}
pub use Rattle.spa.proofs.Sums.{times-suc, times-zero}
pub use Rattle.spa.specs.Inside.Order.{times}
pub use Rattle.spa.specs.Inside.Reading.{read_alike, read_twice}
pub use Rattle.spa.specs.Matched.{HasPlaces, pairs}
pub use Rattle.spa.specs.Matching.{pairs_from}
pub use Rattle.spa.specs.Named.{IsWithinLimits}
pub use Rattle.spa.specs.Order.{RowOrder, as_read, none, order, plus, sum_below}
pub use Rattle.spa.specs.Prices.{ProveBest, value}
pub use Rattle.spa.specs.Row.{at}
pub use Rattle.spa.specs.Shape.{IsPlaceOf, IsSound, Shape, choice_at, list_of, project_quota, supervisor_of, supervisor_quota}
pub use Rattle.spa.specs.declared.TheConstants.{COMPONENTS, RANKS}
pub use Rattle.spa.specs.declared.aim.Aim.{Aim}
pub use Rattle.std.proofs.lemmas.Bool.{cases_eq, cases_lt, eq-eqb, false≢true, ne_eqb}
pub use Rattle.std.proofs.lemmas.Int.{ints}
pub use Rattle.std.proofs.lemmas.List.{get_or_default, length-replicate}
pub use Rattle.std.proofs.lemmas.List.Elements.{All-from_recursion, recursion_from_All}
pub use Rattle.std.proofs.lemmas.List.Sums.{sum_by-cons}
pub use Rattle.std.specs.List.{AllByRecursion}
pub use Rattle.verdict.specs.Rows.{AllInRange, AreNotBelowZero, EachInRange, InRange, price}
pub use Rattle.verdict.specs.Verdict.{IsProvedBest}
pub use Rattle.verdict.specs.declared.prices.Prices.{Prices}
