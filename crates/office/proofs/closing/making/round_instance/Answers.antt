use Rattle.office.proofs.closing.Common.{Instance, IsFirstInstanceFault, Project, Placement, count_in, count_with, supervisor_left, project_left, few_placed, List, map, length, arith, true≢false, sym, ap, ◌∙◌, subst}
use Rattle.office.proofs.closing.RoundInstance.{instance_accepted, handed_rolls}
use Rattle.office.proofs.closing.making.round_instance.Goals as goal
use Rattle.office.proofs.closing.making.round_instance.Goals.{in-Memory, in_default}

pub counted-counts-requires-clause-few : goal.counted-counts-requires-clause-few
counted-counts-requires-clause-few c =
    let are = c.requires in
    let few = few_placed are.office are.fit in
    let same = ap (λ (ps : List Placement). length ps) are.parts.all_placements in
    omega (arith, few, are.fit.students.few, same)

pub prove-unreachable-requires : goal.prove-unreachable-requires
prove-unreachable-requires c =
    let are = c.requires in
    let projects = c.in_ok-projects.ensures c.args.up_to c.args.supervisors.now c.args.placements.now c.counted-counts.ensures ∙ ap (map (project_left c.args.up_to c.args.placements.now)) c.entries-roll.ensures.all in
    let supervisors =
    c.in_ok-supervisors.ensures c.args.up_to c.entries-roll.result.now c.args.placements.now c.counted-counts.ensures
    ∙ ap (λ (ps : List Project). map (supervisor_left c.args.up_to ps c.args.placements.now) c.args.supervisors.now) c.entries-roll.ensures.all in
    let same = handed_rolls c.args.up_to are.office are.round _ _ _ _ are.parts _ _ _ supervisors projects c.in_ok-students.ensures in
    let fault = subst (λ (l : Instance). IsFirstInstanceFault l c.in-Err.fault) same c.in-Err.ensures.fault in
    let memory = instance_accepted (count_with c.args.up_to (let o = are.office in o.projects) (let o = are.office in o.placements)) (count_in c.args.up_to (let o = are.office in o.placements)) are.office are.round are.fit c.in-Err.fault fault in
    elim c.match-matches.branch [
      | in-Memory w ↦ true≢false (sym w.matches-is ∙ c.if-prove.true)
      | in_default w ↦ w.in_default.not-Memory memory
    ]

pub returns-in-Ok-clause-instance : goal.returns-in-Ok-clause-instance
returns-in-Ok-clause-instance c o n are =
    let projects = c.in_ok-projects.ensures c.args.up_to c.args.supervisors.now c.args.placements.now c.counted-counts.ensures ∙ ap (map (project_left c.args.up_to c.args.placements.now)) c.entries-roll.ensures.all in
    let supervisors =
    c.in_ok-supervisors.ensures c.args.up_to c.entries-roll.result.now c.args.placements.now c.counted-counts.ensures
    ∙ ap (λ (ps : List Project). map (supervisor_left c.args.up_to ps c.args.placements.now) c.args.supervisors.now) c.entries-roll.ensures.all in
    c.in-Ok.ensures.made ∙ handed_rolls c.args.up_to o n _ _ _ _ are _ _ _ supervisors projects c.in_ok-students.ensures
