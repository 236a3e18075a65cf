use Rattle.office.proofs.Common.{option_map_or, option_copied, Placement, Listed, Round, by_rank, State, round_of, placed_in_round, placed_at_rank, state_of, ◌≡◌, [], Option, arith, Some, sym, ap, ◌∙◌, ◌+◌, ◌==◌, ◌&&◌, List, length, count_by, false}
use Rattle.office_model.specs.declared.request.Reply.TheVariants as reply
use Rattle.office.proofs.Few.{placements_few, counted_few, lists_few}
use Rattle.office.proofs.office.Office.get_round.Goals as goal
use Rattle.office.proofs.office.Office.get_round.Goals.{After-entries}

pub overflow_cast-result : goal.overflow_cast-result
overflow_cast-result c =
    let few = counted_few (state_of c.self.inside) c.self.invariant (λ p. p.round == c.args.round) in
    let are = c.placed_by.ensures ∙ ap (λ (ps : List Placement). count_by (λ p. p.round == c.args.round) ps) c.entries-placements.ensures.all in
    omega (arith, few, are)

pub ranked-requires : goal.ranked-requires
ranked-requires c =
    let few = placements_few (state_of c.self.inside) c.self.invariant in
    let are = ap (λ (ps : List Placement). length ps) c.entries-placements.ensures.all in
    record { few = omega (arith, few, are) }

-- the round that was found
found : (c : After-entries) → round_of (state_of c.self.inside) c.args.round ≡ Some c.unwrap-found.result.now
found c = sym c.by_number.ensures ∙ ap option_copied c.unwrap-found.ensures

pub overflow_cast-result-2 : goal.overflow_cast-result-2
overflow_cast-result-2 c =
    let few = lists_few (state_of c.self.inside) c.self.invariant c.args.round in
    let are = ap (λ (ls : List Listed). length ls) (c.entries.ensures.all ∙ sym (ap (λ (x : Option Round). option_map_or (λ r. r.lists) x []) (found c))) in
    omega (arith, few, are)

pub returns : goal.returns
returns c =
    let n = c.args.round in
    let there : round_of c.args.self.now n ≡ Some c.unwrap-found.result.now = ap (λ (o : State). round_of o n) (sym c.self.view_is) ∙ found c in
    let is_open = sym (ap (λ (x : Option Round). option_map_or (λ r. r.is_open) x false) there) in
    let placed = c.placed_by.ensures ∙ ap (λ (ps : List Placement). count_by (λ p. p.round == n) ps) c.entries-placements.ensures.all ∙ ap (λ (o : State). placed_in_round o n) c.self.view_is in
    let profile = c.ranked.ensures ∙ ap (λ (ps : List Placement). by_rank (λ k. count_by (λ p. (p.round == n) && (p.rank == k + 1)) ps)) c.entries-placements.ensures.all
    ∙ ap (λ (o : State). by_rank (λ k. placed_at_rank o n (k + 1))) c.self.view_is in
    let lists = ap (λ (ls : List Listed). length ls) (c.entries.ensures.all ∙ sym (ap (λ (x : Option Round). option_map_or (λ r. r.lists) x []) there)) in
    record { reply = λ i. Some (reply.Round n (c.aim_of.ensures.aim i) (is_open i) (placed i) (profile i) (lists i)) }
