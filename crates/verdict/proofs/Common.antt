-- The names that most proofs here cite, passed on from one place. Declares nothing.
pub use Rattle.spa.specs.Matched.{pairs}
pub use Rattle.spa.specs.Matching.{weight, weight_row}
pub use Rattle.spa.specs.Order.{RowOrder, none, order, plus, sum_below}
pub use Rattle.spa.specs.Prices.{ProveBest, value}
pub use Rattle.spa.specs.Row.{at}
pub use Rattle.spa.specs.Shape.{IsPlaceOf, Shape, choice_at, list_of, project_quota, supervisor_quota}
pub use Rattle.spa.specs.declared.TheConstants.{COMPONENTS, MAX_PROJECTS, MAX_QUOTA, MAX_STUDENTS, RANKS}
pub use Rattle.std.proofs.lemmas.Bool.{cases_eq, eq-eqb, false≢true, ne_eqb}
pub use Rattle.std.proofs.lemmas.Int.{ints, to_z-of_z}
pub use Rattle.std.proofs.lemmas.List.{get_or_default, length-replicate}
pub use Rattle.verdict.specs.Rows.{EachInRange, InRange, IsBoundedBy, price}
pub use Rattle.verdict.specs.Verdict.{AllCovered, IsProvedBest, IsUncovered, IsUncoveredAt}
