use Rattle.std.proofs.Common.{ℕ, ◌≡◌, ◌+◌, ◌-◌, ◌<◌, ◌≤◌, ◌==◌, ◌∙◌, cond, eqb, arith, List, length, map, Option, Some, ap, length-set, drop, [], slice_get}
use Rattle.solver.proofs.Common.{RANKS, COMPONENTS, Shape, list_of, choice_at, IsPlaceOf, Pair, rank, rank_in, rest_some, count_none, rank_of_place, shape_of, Seen, length-map, Aim, Places, HasPlaces, IsNetworkKept}
use Rattle.spa.proofs.OneMore.{one_at_most, one_more}
use Rattle.solver.proofs.PricesProve.{list_short}
use Rattle.solver.proofs.OneMoreStudent.{place_held}
use Rattle.std.proofs.Math.ListN.{drop_of_length-le}
use Rattle.solver.proofs.session.ranked.Goals as goal
use Rattle.solver.proofs.session.ranked.Goals.{in-Some, in_default}

-- a student's place is one of a list of at most RANKS
placed_within : {aim : Aim} {students : ℕ} (v : Seen (Places COMPONENTS)) (s k : ℕ) → IsNetworkKept aim v students → HasPlaces (shape_of v) v.places → slice_get v.places s ≡ Some (Some k) → k - 1 < RANKS
placed_within v s k kept places is =
    let inside = places.in_list s k is in
    let short : length (list_of (shape_of v) s) ≤ RANKS = list_short (shape_of v) kept.sound s in
    omega (arith, inside.first, inside.last, short)

pub loop-student-preserved : goal.loop-student-preserved
loop-student-preserved c =
    let i : Shape = shape_of c.args.network.now in
    let ks : List (Option ℕ) = c.args.network.now.places in
    let s : ℕ = c.loop-student.student in
    let it = place_held c.requires.0 c.args.network.now c.args.students s c.place_of.result c.requires.1 c.requires.1.weighed.priced.matched.places.one_each c.loop-student-test.true c.place_of.ensures in
    let inv = c.loop-student.invariant in
    elim c.match-place_of.branch [
      | in-Some w ↦
          let p : ℕ = w.in-Some.place in
          let inside : IsPlaceOf (list_of i s) p = c.requires.1.weighed.priced.matched.places.in_list s p (c.place_of.ensures ∙ ap Some w.in-Some.is) in
          let short : length (list_of i s) ≤ RANKS = list_short i c.requires.1.sound s in
          let ranks : rank_in (list_of i s) (choice_at (list_of i s) p) ≡ p = rank_of_place i c.requires.1.sound s p inside in
          let more = λ (k : ℕ). one_more c.loop-student.counts p k (omega arith) (omega arith) in
          record {
            whole = rw w.counts-is (length-set _ _ _ ∙ inv.whole);
            so_far = λ k h.
                let r = rest_some (λ (e : Pair). rank i e == k + 1) s p i.students ks it.known it.held (it.here ∙ w.in-Some.is) in
                let t = ap (λ (x : ℕ). let n : ℕ = cond (eqb x (k + 1)) 1 0 in n) ranks in
                let b = inv.so_far k h in
                rw w.counts-is (omega (arith, more k, r, t, b));
            small = λ k h. let b = inv.small k h in rw w.counts-is (omega (arith, more k, one_at_most (eqb p (k + 1)), b));
          }
      | in_default w ↦
          record {
            whole = rw w.counts-is inv.whole;
            so_far = λ k h. rw w.counts-is (count_none (λ (e : Pair). rank i e == k + 1) s _ _ i.students ks it.known it.held (inv.so_far k h) (it.here ∙ w.in_default.is));
            small = λ k h. rw w.counts-is (let b = inv.small k h in omega (arith, b));
          }
    ]

pub returns-clause-profile : goal.returns-clause-profile
returns-clause-profile c =
    let i : Shape = shape_of c.args.network.now in
    let past : drop c.loop-student.student i.students ≡ [] = drop_of_length-le i.students (omega (arith, length-map c.args.network.now.lists (map (λ e. e.0)), c.requires.1.count, c.loop-student-test.false)) in
    λ k h. let all = rw past at (c.loop-student.invariant.so_far k h) in omega (arith, all)

pub returns-clause-few : goal.returns-clause-few
returns-clause-few c = λ k h. let small = c.loop-student.invariant.small k h in omega (arith, small, c.loop-student.auto.student-end)

pub returns-clause-whole : goal.returns-clause-whole
returns-clause-whole c = c.loop-student.invariant.whole

pub offset_bounds-counts-place : goal.offset_bounds-counts-place
offset_bounds-counts-place c = omega (arith, placed_within c.args.network.now c.loop-student.student c.in-Some.place c.requires.1 c.requires.1.weighed.priced.matched.places (c.place_of.ensures ∙ ap Some c.in-Some.is))

pub bounds-counts-place : goal.bounds-counts-place
bounds-counts-place c = omega (arith, placed_within c.args.network.now c.loop-student.student c.in-Some.place c.requires.1 c.requires.1.weighed.priced.matched.places (c.place_of.ensures ∙ ap Some c.in-Some.is))

pub bounds-counts-place-in-Some : goal.bounds-counts-place-in-Some
bounds-counts-place-in-Some c = omega (arith, placed_within c.args.network.now c.loop-student.student c.in-Some.place c.requires.1 c.requires.1.weighed.priced.matched.places (c.place_of.ensures ∙ ap Some c.in-Some.is))

pub overflow_add-counts : goal.overflow_add-counts
overflow_add-counts c =
    let w = placed_within c.args.network.now c.loop-student.student c.in-Some.place c.requires.1 c.requires.1.weighed.priced.matched.places (c.place_of.ensures ∙ ap Some c.in-Some.is) in
    let small = c.loop-student.invariant.small (c.in-Some.place - 1) (omega (arith, w)) in
    omega (arith, small, c.loop-student-test.true, c.requires.1.few)
