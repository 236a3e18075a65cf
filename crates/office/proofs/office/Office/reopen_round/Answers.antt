use Rattle.office.proofs.Common.{Round, Placement, ReopenRound, rises, State, placement_key, last_round, IsFit, after_plain, reopening_changes, kept_placements, state_of, ◌≡◌, Some, sym, ap, subst, ◌∙◌, ◌==◌, true, not, List}
use Rattle.office_model.specs.declared.request.Reply.TheVariants as reply
use Rattle.office_model.proofs.Places.{rises-filter}
use Rattle.office.proofs.Made.{made_fit, made_done, last_put}
use Rattle.office.proofs.ListPuts.{reopening_found}
use Rattle.office.proofs.office.Office.reopen_round.Goals as goal
use Rattle.office.proofs.office.Office.reopen_round.Goals.{Joined-self-kept}

pub of-requires : goal.of-requires
of-requires c =
    subst (λ (ps : List Placement). rises placement_key ps ≡ true) (sym (c.in_ok-kept_placements.ensures ∙ ap (kept_placements c.last_round-round.result) c.entries-placements.ensures.all))
    (rises-filter placement_key (λ p. not (p.round == c.last_round-round.result)) c.self.inside.placements c.self.invariant.placements_rise)

pub last-requires : goal.last-requires
last-requires c = record { found = reopening_found c.args.self.now (subst IsFit c.self.view_is c.self.invariant) c.requires.allowed }

-- the office after it
after : (c : Joined-self-kept) → record (state_of c.self.inside) { rounds = c.put.new.self; placements = c.in_ok-kept.kept } ≡ after_plain ReopenRound c.args.self.now
after c =
    let old : State = c.args.self.now in
    let last : Round = c.in_ok-last.last in
    let inside : State = state_of c.self.inside in
    let kept = c.in_ok-kept.ensures ∙ c.in_ok-kept_placements.ensures ∙ (λ i. kept_placements (c.last_round-round.ensures i) (c.entries-placements.ensures.all i)) in
    (λ i. record inside { rounds = c.put.new.self; placements = kept i })
    ∙ (λ i. let n : State = last_put (λ r. record r { is_open = true }) inside old c.self.view_is last c.in_ok-last.ensures.last c.put.new.self c.in_ok-put.ensures.ok i in
    record n { placements = kept_placements (last_round old) (let o : State = c.self.view_is i in o.placements) })

pub invariant_of-self-2 : goal.invariant_of-self-2
invariant_of-self-2 c = made_fit ReopenRound (state_of c.self.inside) c.args.self.now c.self.view_is c.requires.allowed c.self.invariant _ (after c)

pub returns-clause-changes : goal.returns-clause-changes
returns-clause-changes c = c.in_ok-changes.ensures ∙ ap reopening_changes c.last_round-round.ensures

pub returns-clause-ok : goal.returns-clause-ok
returns-clause-ok c =
    made_done ReopenRound (state_of c.self.inside) c.args.self.now c.self.view_is c.requires.allowed c.self.invariant _ (after c) _
    (ap (λ n. Some (reply.Opened n)) c.last_round-round.ensures)
    (returns-clause-changes c)
