use Rattle.office_model.specs.declared.request.Reply.TheVariants as reply
use Rattle.spa.specs.declared.aim.Aim.{Aim}
use Rattle.office_model.specs.declared.rounds.RoundAim.{RoundAim}
use Rattle.office.proofs.Common.{OpenRound, Round, Listed, Change, List, arith, put, State, aim_key, round_key, after_plain, opening_changes, state_of, ◌≡◌, ℕ, [], Some, ap, ◌∙◌, ◌+◌, true, length}
use Rattle.office.proofs.Made.{made_fit, made_done}
use Rattle.office.proofs.office.Office.open_round.Goals as goal
use Rattle.office.proofs.office.Office.open_round.Goals.{Joined-self-aims}

-- the round that was put is the one of this number
round_put : (rounds was : List Round) (number count : ℕ) (lists : List Listed) → rounds ≡ put round_key (record { number = number; is_open = true; lists = lists }) was
    → number ≡ count → lists ≡ [] → rounds ≡ put round_key (record { number = count; is_open = true; lists = [] }) was
round_put rounds was number count lists h e f = h ∙ (λ j. put round_key (record { number = e j; is_open = true; lists = f j }) was)

-- and so is its aim
aim_put : (aims was : List RoundAim) (aim : Aim) (number count : ℕ) → aims ≡ put aim_key (record { round = number; aim = aim }) was → number ≡ count
    → aims ≡ put aim_key (record { round = count; aim = aim }) was
aim_put aims was aim number count h e = h ∙ (λ j. put aim_key (record { round = e j; aim = aim }) was)

-- and so are the changes
changes_by : (changes : List Change) (aim : Aim) (number count : ℕ) → changes ≡ opening_changes number aim → number ≡ count → changes ≡ opening_changes count aim
changes_by changes aim number count h e = h ∙ ap (λ (n : ℕ). opening_changes n aim) e

after : (c : Joined-self-aims) → record (state_of c.self.inside) { rounds = c.put.new.self; aims = c.in_ok-aims.aims } ≡ after_plain (OpenRound c.args.aim) c.args.self.now
after c =
    let o : State = state_of c.self.inside in
    let rounds = round_put c.put.new.self o.rounds _ (length c.args.self.now.rounds + 1) _ c.in_ok-put.ensures.ok (omega arith) c.new.ensures in
    let aims = aim_put c.in_ok-aims.aims c.args.self.now.aims c.args.aim _ (length c.args.self.now.rounds + 1) c.in_ok-aims.ensures.put (omega arith) in
    (λ i. record o {
      rounds = rounds i;
      aims = aims i;
    })
    ∙ (λ i. let n : State = c.self.view_is i in record n {
      rounds = put round_key (record { number = length c.args.self.now.rounds + 1; is_open = true; lists = [] }) n.rounds;
      aims = put aim_key (record { round = length c.args.self.now.rounds + 1; aim = c.args.aim }) c.args.self.now.aims;
    })

pub invariant_of-self-2 : goal.invariant_of-self-2
invariant_of-self-2 c = made_fit (OpenRound c.args.aim) (state_of c.self.inside) c.args.self.now c.self.view_is c.requires.allowed c.self.invariant _ (after c)

pub returns-clause-changes : goal.returns-clause-changes
returns-clause-changes c = changes_by _ c.args.aim _ (length c.args.self.now.rounds + 1) c.in_ok-changes.ensures (omega arith)

pub returns-clause-ok : goal.returns-clause-ok
returns-clause-ok c =
    made_done (OpenRound c.args.aim) (state_of c.self.inside) c.args.self.now c.self.view_is c.requires.allowed c.self.invariant _ (after c) _
    (ap (λ (n : ℕ). Some (reply.Opened n)) (omega arith))
    (returns-clause-changes c)
