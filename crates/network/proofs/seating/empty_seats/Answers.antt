use Rattle.std.proofs.Common.{rules, arith, ◌≡◌, ◌+◌, ◌<◌, ◌++◌, ◌∷◌, [], inl, inr, length, slice_get, sym, ◌∙◌, ap}
use Rattle.network.proofs.Common.{cases_eq, length-append, slice_get-get_or, slice_get_within, some_pair_parts, vec_capacity, room_of, room_at}
use Rattle.network.proofs.Lists.{slice_get-last, slice_get-before, none_more}
use Rattle.network.proofs.seating.empty_seats.Goals as goal

pub loop-i-preserved : goal.loop-i-preserved
loop-i-preserved c =
    let L = c.loop-i.lists.items in
    let v = c.in_ok-with_capacity.field-0 in
    let i = c.loop-i.i in
    let now : c.push.new.self.items ≡ L ++ v ∷ [] = c.in_ok-push.ensures.items in
    record {
      len = ap length now ∙ length-append L (v ∷ []) ∙ ap (λ n. n + 1) c.loop-i.invariant.len;
      none = λ p s. rw now (none_more L v c.in_ok-with_capacity.ensures.items c.loop-i.invariant.none p s);
      room = λ p m q lt e. elim (cases_eq p i) [
        | inl same ↦
            (let here : room_at c.push.new.self.items p ≡ vec_capacity v = ap (λ z. room_at z p) now ∙ ap (room_at (L ++ v ∷ [])) (same ∙ sym c.loop-i.invariant.len) ∙ ap room_of (slice_get-last L v) in
            let at = slice_get-get_or c.args.projects.now i (0, 0) c.loop-i-test.true in
            let quota = (some_pair_parts _ _ _ _ (sym e ∙ ap (slice_get c.args.projects.now) same ∙ at)).1 in
            omega (arith, here, quota, c.in_ok-with_capacity.ensures.capacity))
        | inr ne ↦
            (let less : p < length L = omega (arith, lt, ne, c.loop-i.invariant.len) in
            let there : room_at c.push.new.self.items p ≡ room_at L p = ap (λ z. room_at z p) now ∙ ap room_of (slice_get-before L v p less) in
            let r = c.loop-i.invariant.room p m q (omega (arith, lt, ne)) e in
            omega (arith, there, r))
      ];
    }

pub returns-clause-room : goal.returns-clause-room
returns-clause-room c p l q e =
    let lt = slice_get_within c.args.projects.now p _ e in
    c.loop-i.invariant.room p l q (search rules) e
