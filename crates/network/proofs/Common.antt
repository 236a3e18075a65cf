-- The names that most proofs here cite, passed on from one place. Declares nothing.
pub use Rattle.network.specs.Inside.Among.{Among}
pub use Rattle.network.specs.Inside.Arcs.{Arc, EntriesBelow, EntryArc, HasEntry, Holds, IsFormed, IsHeld, LeaveArc, OfStudent, OfferArc, ProjectsAmong, RoomArc, Row, Rows, StudentsAmong, SwapArc, entry_arcs, flow_arcs, list_cost, project_count, row_cost, sink_of}
pub use Rattle.network.specs.Inside.Fair.{AreStudentsFair, GainsNothing, IsFair, NodesFair, NotAbove, gain}
pub use Rattle.network.specs.Inside.Labels.{AreBlank, AreKeyed, AreLabels, HasCompared, IsBestNode, IsOpenEnd, IsOrdered, IsQueue, IsQueueBut, IsTouched, IsUnderway, IsWithout, count_of}
pub use Rattle.network.specs.Inside.Marks.{blank, improves, is_open_mark, is_seen, is_settled, key_at, mark_at, potential, potential_at, settled_as, unsettled}
pub use Rattle.network.specs.Inside.Phases.{BetweenCalls, BetweenFlow, HasEntered, HasSameRolls, IsNextExcess, MayEnter, OffersOfSeated, PushingFlow, PushingResidual, SearchingFlow}
pub use Rattle.network.specs.Inside.Prices.{HasPrices, PotentialPrices, at_entry, at_place, at_row, of_place, payer_price, placed_worth, price_sum, project_price, project_price_at, quota_at, student_price, supervisor_price}
pub use Rattle.network.specs.Inside.Push.{HasSteps, IsCounted, IsFirst, IsStep, entry_at, one_if, owner_at, place_at, row_at, seat, seats, seats_of, sum_to}
pub use Rattle.network.specs.Inside.Search.{Feasible, FromNode, IsFound, IsRunning, IsSearch, Meets, OffersOf, OneOffer, Reaches, Relaxes, Replaced, Taken, iteration_or, lowered}
pub use Rattle.network.specs.Inside.Seating.{AreOffered, AreSeated, HasSameRoom, IsSeating, numbers_at, numbers_of, room_at, room_of}
pub use Rattle.network.specs.Inside.View.{IsKnownList}
pub use Rattle.network.specs.Inside.Ways.{HasFreePath, HasRoom, IsBounded, IsDominated, IsNextOnFreePath, SearchArc, at_sink, by_project, by_supervisor, is_prunable}
pub use Rattle.network.specs.Seen.{ArePrices, FollowPotentials, IsAdmission, IsPriced, Seen, arc_count, is_place, multiple, node_count, price, price_total, shape_of, sum_of, total_worth, worth_at}
pub use Rattle.network.specs.View.{place_of, row_of, seen}
pub use Rattle.network.specs.declared.TheConstants.{LARGEST_OFFER, LARGEST_POTENTIAL, LARGEST_PRICE, MAX_ARCS, MAX_OFFERS, MAX_RELAXATIONS}
pub use Rattle.network.specs.declared.flow.Flow.{Flow}
pub use Rattle.network.specs.declared.marks.Labels.{Labels}
pub use Rattle.network.specs.declared.marks.Mark.{Mark}
pub use Rattle.network.specs.declared.marks.Origin.{Origin}
pub use Rattle.network.specs.declared.marks.Origin.TheVariants.{Entry, Leave, Offer, Room, Swap, Unseen}
pub use Rattle.network.specs.declared.seating.Seating.{Seating}
pub use Rattle.spa.specs.Laws.{AtMost, IsWorth, Ops}
pub use Rattle.spa.specs.Matched.{HasPlaces, IsMatched, QuotasSuffice, pairs}
pub use Rattle.spa.specs.Shape.{Shape, choice_at, list_of, project_quota, supervisor_of, supervisor_quota}
pub use Rattle.spa.specs.declared.TheConstants.{MAX_PROJECTS, MAX_QUOTA, MAX_STUDENTS, MAX_SUPERVISORS, RANKS}
pub use Rattle.std.proofs.Math.Nat.{mul-le-mul_right}
pub use Rattle.std.proofs.lemmas.Bool.{and_from, and_parts, cases_Bool, cases_eq, cases_lt, cond-false, cond-true, eq-eqb, lt-ltb, ltb-false, ltb-true, ne_eqb, not-false, not-true}
pub use Rattle.std.proofs.lemmas.List.{get_or-map, get_or_append_left, get_or_default, get_or_past, get_or_push, get_or_read, length-append, length-map, map-append, with_items_is}
pub use Rattle.std.proofs.lemmas.List.Sums.{get_or-le-sum_by, sum_by-append, sum_by-cons, sum_by-remove, sum_by-set, sum_by-swap_remove, sum_by-take-le, sum_by_more}
pub use Rattle.std.proofs.lemmas.Option.{get_or_from_slice_get, same_Some, slice_get-get_or, slice_get-map, slice_get_past, slice_get_read, slice_get_within, some_pair_parts}
pub use Rattle.std.specs.List.{AllByRecursion, AllPairs, insert, range_with_len, remove, swap_remove}
pub use Rattle.std.specs.Ordering.{is_gt, ordering_reverse}
pub use Rattle.std.specs.Prelude.{false, length, nat_eq, slice_get, slice_index, slice_index_or}
pub use Rattle.std.specs.Vec.{vec_capacity, with_items}
pub use Rattle.std.specs.declared.alloc.Global.{Global}
pub use Rattle.std.specs.declared.cmp.Ordering.{Ordering}
pub use Rattle.std.specs.declared.cmp.Ordering.TheVariants.{Equal, Greater, Less}
pub use Rattle.std.specs.declared.vec.Vec.{Vec}
