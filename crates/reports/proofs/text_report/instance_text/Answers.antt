use Rattle.std.proofs.Common.{◌≡◌, ℕ, ◌-◌, List, map, None, IfOk, string_bytes, refl, sym, subst}
use Rattle.spa.specs.Instance.{Instance, Supervisor, Project, Student, supervisor_codes, project_codes, student_codes}
use Rattle.spa.specs.Named.{Named, instance_of, students_named}
use Rattle.reports.proofs.Common.{supervisor_key, project_key, list_key, lists_of, Rise}
use Rattle.intake.proofs.Alone.{no_pairs, instance_alone}
use Rattle.reports.proofs.Risen.{risen}
use Rattle.reports.proofs.text_report.instance_text.Goals as goal

pub write_round-requires-clause-supervisors : goal.write_round-requires-clause-supervisors
write_round-requires-clause-supervisors c =
    let is = c.requires in
    subst (λ (l : Instance). Rise (supervisor_codes l)) (sym is.same)
    (risen {F = Supervisor} supervisor_key (λ s. record { code = s.code; quota = s.quota - is.with_supervisor s.code }) (λ e. e.code) (λ _. refl) (let o = is.office in o.supervisors) is.fit.supervisors.rise)

pub write_round-requires-clause-projects : goal.write_round-requires-clause-projects
write_round-requires-clause-projects c =
    let is = c.requires in
    subst (λ (l : Instance). Rise (project_codes l)) (sym is.same)
    (risen {F = Project} project_key (λ p. record { code = p.code; supervisor = p.supervisor; quota = p.quota - is.in_project p.code }) (λ e. e.code) (λ _. refl) (let o = is.office in o.projects) is.fit.projects.rise)

pub write_round-requires-clause-students : goal.write_round-requires-clause-students
write_round-requires-clause-students c =
    let is = c.requires in
    subst (λ (l : Instance). Rise (student_codes l)) (sym is.same)
    (risen {F = Student} list_key (λ l. record { code = l.student; list = l.choices }) (λ e. e.code) (λ _. refl) (lists_of is.office is.round) (is.fit.lists_rise is.round))

pub returns : goal.returns
returns c =
    let i : Named = c.args.instance.now in
    let nobody = no_pairs (students_named i.project_codes i.student_codes i.shape.students) i.shape.students in
    let alone = instance_alone c.args.aim (instance_of i) (map (λ e. None) i.shape.students) nobody in
    subst (λ (t : List ℕ). IfOk c.write_round.result (λ text. string_bytes text ≡ t)) (sym alone) c.write_round.ensures.text
