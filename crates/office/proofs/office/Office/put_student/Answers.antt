use Rattle.office_model.specs.declared.entries.Student.{Student}
use Rattle.office.proofs.Common.{StudentTable, PutStudent, put, State, student_key, has_student, after_plain, put_or_added, student_cells, state_of, ◌≡◌, [], ◌∷◌, refl, ap, ◌∙◌, List, is_some}
use Rattle.office.proofs.Known.{lent_is_there}
use Rattle.office.proofs.Made.{made_fit, made_done}
use Rattle.office.proofs.office.Office.put_student.Goals as goal

after : (c : goal.In_ok-put) → record (state_of c.self.inside) { students = c.put.new.self } ≡ after_plain (PutStudent c.args.code c.args.label) c.args.self.now
after c =
    let o : State = state_of c.self.inside in
    ap (λ (xs : List Student). record o { students = xs }) (c.in_ok-put.ensures.ok ∙ ap (λ e. put student_key e o.students) c.in_ok-student.ensures.made) ∙ ap (after_plain (PutStudent c.args.code c.args.label)) c.self.view_is

pub invariant_of-self-2 : goal.invariant_of-self-2
invariant_of-self-2 c = made_fit (PutStudent c.args.code c.args.label) (state_of c.self.inside) c.args.self.now c.self.view_is c.requires.allowed c.self.invariant _ (after c)

-- whether the code is known
known_is : (c : goal.In_ok-put) → c.is_some-known.result ≡ has_student c.args.self.now c.args.code
known_is c =
    c.is_some-known.ensures ∙ lent_is_there c.by_code.result ∙ ap is_some c.by_code.ensures
    ∙ (λ i. let o : State = c.self.view_is i in has_student o (c.as_str.ensures i))

pub returns-clause-changes : goal.returns-clause-changes
returns-clause-changes c =
    c.in_ok-student.ensures.changes
    ∙ (λ i. put_or_added (known_is c i) (record { table = StudentTable; cells = student_cells (c.in_ok-student.ensures.made i) }) ∷ [])

pub returns-clause-ok : goal.returns-clause-ok
returns-clause-ok c = made_done (PutStudent c.args.code c.args.label) (state_of c.self.inside) c.args.self.now c.self.view_is c.requires.allowed c.self.invariant _ (after c) _ refl (returns-clause-changes c)
