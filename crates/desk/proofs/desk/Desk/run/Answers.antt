use Rattle.std.proofs.Common.{rules, ◌≡◌, ℕ, ◌+◌, ◌≤◌, List, [], ◌∷◌, length, vec_len, arith, refl, ap}
use Rattle.desk.proofs.Common.{vec_capacity, state, Request}
use Rattle.desk.proofs.Runs.{run_all, run_on_all, one_more, one_more_on, crash_more, still_shut}
use Rattle.desk.proofs.desk.Desk.run.Goals as goal

no_items : (requests : List Request) → length requests ≡ 0 → requests ≡ []
no_items [] h = refl
no_items (request ∷ requests) h = absurd (omega (arith, h))

pub returns-clause-run : goal.returns-clause-run
returns-clause-run g c =
    let none : length c.loop-request.request-iterator.rest.items ≡ 0 = search rules in
    run_all c.args.self.now.office c.loop-request.self.office c.args.requests.items c.loop-request.request-iterator.rest.items c.loop-request.answers.items (no_items _ none) c.loop-request.invariant.rest

pub returns-clause-session : goal.returns-clause-session
returns-clause-session g c =
    let none : length c.loop-request.request-iterator.rest.items ≡ 0 = search rules in
    run_on_all c.args.self.now.office c.args.self.now.session c.loop-request.self.office c.loop-request.self.session c.args.requests.items c.loop-request.request-iterator.rest.items c.loop-request.answers.items (no_items _ none) c.loop-request.invariant.goes

pub returns-clause-crash : goal.returns-clause-crash
returns-clause-crash g c = c.loop-request.invariant.crash

pub returns-clause-stays_shut : goal.returns-clause-stays_shut
returns-clause-stays_shut g c = c.loop-request.invariant.shut

-- each answer that is left has room
room_left : (n more room greater : ℕ) (left rest : List Request) (request : Request) → left ≡ request ∷ rest → more ≡ n + 1 → room ≤ greater → n + length left ≤ room → more + length rest ≤ greater
room_left n more room greater left rest request e one great had = let shorter = ap length e in omega (arith, shorter, one, great, had)

pub loop-request-preserved : goal.loop-request-preserved
loop-request-preserved g c =
    let l = c.loop-request.invariant in
    let next = c.in-Some.ensures.steps.0 in
    let added = c.in_ok-push.ensures.items in
    record {
      rest = one_more c.args.self.now.office c.loop-request.self.office c.ask-answer.new.self.office c.args.requests.items c.loop-request.request-iterator.rest.items c.next.new.self.rest.items c.in-Some.request c.ask-answer.result
          c.loop-request.answers.items c.push.new.self.items next added l.rest c.ask-answer.ensures.step;
      goes = one_more_on c.args.self.now.office c.args.self.now.session c.loop-request.self.office c.loop-request.self.session c.ask-answer.new.self.office c.ask-answer.new.self.session c.args.requests.items
          c.loop-request.request-iterator.rest.items c.next.new.self.rest.items c.in-Some.request c.ask-answer.result c.loop-request.answers.items c.push.new.self.items next added l.goes c.ask-answer.ensures.step c.ask-answer.ensures.session c.ask-answer.ensures.at_once;
      tables = c.ask-answer.ensures.in_order.stands;
      crash = crash_more c.args.self.now.office c.loop-request.self.office c.ask-answer.new.self.office c.args.requests.items c.loop-request.request-iterator.rest.items c.next.new.self.rest.items c.in-Some.request c.ask-answer.result
          c.loop-request.answers.items c.push.new.self.items next added l.rest (state g.S.Store c.args.self.now.store) (state g.S.Store c.loop-request.self.store) (state g.S.Store c.ask-answer.new.self.store) l.shut l.crash c.ask-answer.ensures.saved.crash;
      shut = still_shut (state g.S.Store c.args.self.now.store) (state g.S.Store c.loop-request.self.store) (state g.S.Store c.ask-answer.new.self.store) _ c.ask-answer.ensures.saved.crash l.shut c.ask-answer.ensures.saved.stays_shut;
      room = room_left (vec_len c.loop-request.answers) (vec_len c.push.new.self) (vec_capacity c.loop-request.answers) (vec_capacity c.push.new.self) c.loop-request.request-iterator.rest.items c.next.new.self.rest.items c.in-Some.request next c.in_ok-push.ensures.len c.in_ok-push.ensures.capacity l.room;
    }
