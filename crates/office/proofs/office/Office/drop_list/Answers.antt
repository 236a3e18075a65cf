use Rattle.office.proofs.Common.{Round, Listed, put, take_out, list_key, round_key, after_plain, Remove, list_part, state_of, DropList, ◌≡◌, [], ◌∷◌, refl, ap, ◌∙◌, List}
use Rattle.office.proofs.Made.{made_fit, made_done, last_put}
use Rattle.office.proofs.office.Office.drop_list.Goals.{After-drop-student-inside-2}
use Rattle.office.proofs.office.Office.drop_list.Goals as goal

-- the office after it
after : (c : After-drop-student-inside-2) → record (state_of c.self.inside) { rounds = c.put.new.self } ≡ after_plain (DropList c.args.student) c.args.self.now
after c =
    let last : Round = c.in_ok-last.last in
    let lists = c.in_ok-take_out.ensures.ok ∙ (λ i. take_out list_key (0, c.as_str.ensures i) last.lists) in
    last_put (λ r. record r { lists = take_out list_key (0, c.args.student) r.lists }) (state_of c.self.inside) c.args.self.now c.self.view_is last c.in_ok-last.ensures.last c.put.new.self
    (c.in_ok-put.ensures.ok ∙ ap (λ (ls : List Listed). put round_key (record last { lists = ls }) c.self.inside.rounds) lists)

pub invariant_of-self-2 : goal.invariant_of-self-2
invariant_of-self-2 c = made_fit (DropList c.args.student) (state_of c.self.inside) c.args.self.now c.self.view_is c.requires.allowed c.self.invariant _ (after c)

pub returns-clause-changes : goal.returns-clause-changes
returns-clause-changes c =
    c.in_ok-changes.ensures ∙ ap (λ p. Remove p ∷ []) c.in_ok-part.ensures ∙ (λ i. Remove (list_part (c.last_round-round.ensures i) (c.as_str-2.ensures i)) ∷ [])

pub returns-clause-ok : goal.returns-clause-ok
returns-clause-ok c =
    made_done (DropList c.args.student) (state_of c.self.inside) c.args.self.now c.self.view_is c.requires.allowed c.self.invariant _ (after c) _ refl (returns-clause-changes c)
