use Rattle.office.proofs.Common.{PutSupervisor, PutProject, plain_refusal, sym, ap, ◌∙◌}
use Rattle.office.proofs.office.Office.plain_refusal.Goals as goal

pub returns-in-PutSupervisor : goal.returns-in-PutSupervisor
returns-in-PutSupervisor c =
    c.supervisor_refusal.ensures
    ∙ (λ i. plain_refusal c.args.self.now (PutSupervisor (c.as_str.ensures i) (c.as_str-in-PutSupervisor.ensures i) c.in-PutSupervisor.quota))
    ∙ ap (plain_refusal c.args.self.now) (sym c.in-PutSupervisor.is)

pub returns-in-PutProject : goal.returns-in-PutProject
returns-in-PutProject c =
    c.project_refusal.ensures
    ∙ (λ i. plain_refusal c.args.self.now (PutProject (c.as_str-in-PutProject.ensures i) (c.as_str-in-PutProject-2.ensures i) (c.as_str-in-PutProject-3.ensures i) c.in-PutProject.quota))
    ∙ ap (plain_refusal c.args.self.now) (sym c.in-PutProject.is)
