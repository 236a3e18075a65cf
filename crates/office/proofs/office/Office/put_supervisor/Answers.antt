use Rattle.office_model.specs.declared.entries.Supervisor.{Supervisor}
use Rattle.office.proofs.Common.{SupervisorTable, PutSupervisor, put, State, supervisor_key, has_supervisor, put_or_added, supervisor_cells, after_plain, state_of, ◌≡◌, [], ◌∷◌, refl, ap, ◌∙◌, List, is_some}
use Rattle.office.proofs.Known.{lent_is_there}
use Rattle.office.proofs.Made.{made_fit, made_done}
use Rattle.office.proofs.office.Office.put_supervisor.Goals as goal

after : (c : goal.In_ok-put) → record (state_of c.self.inside) { supervisors = c.put.new.self } ≡ after_plain (PutSupervisor c.args.code c.args.label c.args.quota) c.args.self.now
after c =
    let o : State = state_of c.self.inside in
    ap (λ (xs : List Supervisor). record o { supervisors = xs }) (c.in_ok-put.ensures.ok ∙ ap (λ e. put supervisor_key e o.supervisors) c.in_ok-supervisor.ensures.made) ∙ ap (after_plain (PutSupervisor c.args.code c.args.label c.args.quota)) c.self.view_is

pub invariant_of-self-2 : goal.invariant_of-self-2
invariant_of-self-2 c = made_fit (PutSupervisor c.args.code c.args.label c.args.quota) (state_of c.self.inside) c.args.self.now c.self.view_is c.requires.allowed c.self.invariant _ (after c)

-- whether the code is known
known_is : (c : goal.In_ok-put) → c.is_some-known.result ≡ has_supervisor c.args.self.now c.args.code
known_is c =
    c.is_some-known.ensures ∙ lent_is_there c.by_code.result ∙ ap is_some c.by_code.ensures
    ∙ (λ i. let o : State = c.self.view_is i in has_supervisor o (c.as_str.ensures i))

pub returns-clause-changes : goal.returns-clause-changes
returns-clause-changes c =
    c.in_ok-supervisor.ensures.changes
    ∙ (λ i. put_or_added (known_is c i) (record { table = SupervisorTable; cells = supervisor_cells (c.in_ok-supervisor.ensures.made i) }) ∷ [])

pub returns-clause-ok : goal.returns-clause-ok
returns-clause-ok c = made_done (PutSupervisor c.args.code c.args.label c.args.quota) (state_of c.self.inside) c.args.self.now c.self.view_is c.requires.allowed c.self.invariant _ (after c) _ refl (returns-clause-changes c)
