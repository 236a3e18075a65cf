use Rattle.office.proofs.Common.{count_by, ◌==◌, ◌&&◌, ◌+◌, false, Done, put_all, State, placement_key, last_round, lists_of, IsFit, by_rank, round_instance, IsClosed, state_of, ◌≡◌, sym, ap, ◌∙◌, subst}
use Rattle.office_model.specs.declared.request.Reply.TheVariants as reply
use Rattle.spa.specs.Coded.{taken}
use Rattle.office.specs.closing.Places.{placed_by}
use Rattle.office.specs.closing.Changes.{after_placing, closing_changes, placed_reply}
use Rattle.office.proofs.Made.{last_put}
use Rattle.office.proofs.closing.TakenPairs.{places_close}
use Rattle.office.proofs.office.Office.close.Goals as goal
use Rattle.office.proofs.office.Office.close.Goals.{Joined-self-placements}

-- the placements that are made
made : (c : Joined-self-placements) → c.in_ok-placed.placed.items ≡ placed_by (last_round c.args.self.now) (lists_of c.args.self.now (last_round c.args.self.now)) c.args.matching.now.places.items
made c = c.in_ok-placed.ensures.made ∙ (λ i. placed_by (c.last_round-round.ensures i) ((c.lists.ensures.all ∙ ap (lists_of c.args.self.now) c.last_round-round.ensures) i) (c.deref.ensures.value i))

-- and the office after it
after : (c : Joined-self-placements) → record (state_of c.self.inside) { rounds = c.put.new.self; placements = c.in_ok-placements.placements } ≡ after_placing c.in_ok-placed.placed.items c.args.self.now
after c =
    let old : State = c.args.self.now in
    let inside : State = state_of c.self.inside in
    let placed = c.in_ok-placed.placed.items in
    (λ i. record inside { rounds = c.put.new.self; placements = c.in_ok-placements.ensures i })
    ∙ (λ i. let n : State = last_put (λ r. record r { is_open = false }) inside old c.self.view_is c.in_ok-last.last c.in_ok-last.ensures.last c.put.new.self c.in_ok-put.ensures.ok i in
    record n { placements = put_all placement_key placed (let o : State = c.self.view_is i in o.placements) })

pub invariant_of-self-2 : goal.invariant_of-self-2
invariant_of-self-2 c =
    let law = places_close c.args.self.now c.args.matching.now.places.items (subst IsFit c.self.view_is c.self.invariant) c.requires.open c.requires.matching c.in_ok-placed.placed.items (made c) in
    subst IsFit (sym (after c)) law.fit

pub returns-clause-ok : goal.returns-clause-ok
returns-clause-ok c =
    let old : State = c.args.self.now in
    let law = places_close old c.args.matching.now.places.items (subst IsFit c.self.view_is c.self.invariant) c.requires.open c.requires.matching c.in_ok-placed.placed.items (made c) in
    let size = c.len.ensures ∙ c.in_ok-placed.placed.ok.0 in
    let counts = c.ranked.ensures ∙ (λ i. by_rank (λ k. count_by (λ p. (p.round == c.last_round-round.ensures i) && (p.rank == k + 1)) (c.deref-2.ensures.value i))) in
    let answered : reply.Closed c.last_round-round.result c.len.result c.ranked.result ≡ placed_reply (last_round old) c.in_ok-placed.placed.items = λ i. reply.Closed (c.last_round-round.ensures i) (size i) (counts i) in
    let changed = c.in_ok-changes.ensures ∙ (λ i. closing_changes (c.last_round-round.ensures i) (c.deref-3.ensures.value i)) in
    let done : Done = record { reply = reply.Closed c.last_round-round.result c.len.result c.ranked.result; changes = c.in_ok-changes.changes } in
    subst (λ (n : State). IsClosed (taken (round_instance old).students c.args.matching.now.places.items) old n done) (sym (after c)) (law.closed done answered changed)
