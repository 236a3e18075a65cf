use Rattle.std.proofs.Common.{map, sym, ap, ◌∙◌, subst}
use Rattle.intake.proofs.Common.{IsRoll, draft_of}
use Rattle.intake.proofs.RowInDraft.{adds_put, price_moved}
use Rattle.intake.proofs.Rolls.{supervisor_keys, project_keys, student_keys}
use Rattle.intake.proofs.draft.PartialRound.add_to.Goals as goal

pub returns-in-Aims : goal.returns-in-Aims
returns-in-Aims c = rw c.in-Aims.is c.add_aim.ensures

pub returns-in_ok-added-in-StudentPrices : goal.returns-in_ok-added-in-StudentPrices
returns-in_ok-added-in-StudentPrices c = rw c.in-StudentPrices.is (adds_put _ _ _ (λ vs. record (draft_of c.args.self.now) { student_prices = vs }) c.in_ok-added-in-StudentPrices.added (price_moved c.args.kind _ _ _ _ _ c.in_ok-added-in-StudentPrices.added (ap (map (λ e. e.0)) c.deref.ensures.value ∙ sym (student_keys c.args.self.now.students.items)) c.in_ok-added-in-StudentPrices.ensures))

pub returns-in_ok-added-in-ProjectPrices : goal.returns-in_ok-added-in-ProjectPrices
returns-in_ok-added-in-ProjectPrices c = rw c.in-ProjectPrices.is (adds_put _ _ _ (λ vs. record (draft_of c.args.self.now) { project_prices = vs }) c.in_ok-added-in-ProjectPrices.added (price_moved c.args.kind _ _ _ _ _ c.in_ok-added-in-ProjectPrices.added (ap (map (λ e. e.0)) c.deref-in-ProjectPrices.ensures.value ∙ sym (project_keys c.args.self.now.projects.items)) c.in_ok-added-in-ProjectPrices.ensures))

pub returns-in_ok-added-in-SupervisorPrices : goal.returns-in_ok-added-in-SupervisorPrices
returns-in_ok-added-in-SupervisorPrices c = rw c.in-SupervisorPrices.is (adds_put _ _ _ (λ vs. record (draft_of c.args.self.now) { supervisor_prices = vs }) c.in_ok-added-in-SupervisorPrices.added (price_moved c.args.kind _ _ _ _ _ c.in_ok-added-in-SupervisorPrices.added (ap (map (λ e. e.0)) c.deref-in-SupervisorPrices.ensures.value ∙ sym (supervisor_keys c.args.self.now.supervisors.items)) c.in_ok-added-in-SupervisorPrices.ensures))

-- the rolls of a draft
pub add_price-requires : goal.add_price-requires
add_price-requires c = subst IsRoll (student_keys c.args.self.now.students.items ∙ ap (map (λ e. e.0)) (sym c.deref.ensures.value)) c.requires.instance.students

pub add_price-requires-in-ProjectPrices : goal.add_price-requires-in-ProjectPrices
add_price-requires-in-ProjectPrices c = subst IsRoll (project_keys c.args.self.now.projects.items ∙ ap (map (λ e. e.0)) (sym c.deref-in-ProjectPrices.ensures.value)) c.requires.instance.projects

pub add_price-requires-in-SupervisorPrices : goal.add_price-requires-in-SupervisorPrices
add_price-requires-in-SupervisorPrices c = subst IsRoll (supervisor_keys c.args.self.now.supervisors.items ∙ ap (map (λ e. e.0)) (sym c.deref-in-SupervisorPrices.ensures.value)) c.requires.instance.supervisors

pub returns-in-Supervisors : goal.returns-in-Supervisors
returns-in-Supervisors c = rw c.in-Supervisors.is c.add_supervisor.ensures

pub returns-in-Projects : goal.returns-in-Projects
returns-in-Projects c = rw c.in-Projects.is c.add_project.ensures

pub returns-in-Pairs : goal.returns-in-Pairs
returns-in-Pairs c = rw c.in-Pairs.is c.add_pair.ensures
