use Rattle.std.proofs.Common.{arith, ◌≡◌, ◌+◌, ◌-◌, ◌<◌, length, true, false, sym, ◌∙◌}
use Rattle.network.proofs.Common.{ltb-true, lt-ltb, at_sink, by_supervisor, by_project}
use Rattle.network.proofs.PrunedArcs.{project_free_path, supervisor_free_path}
use Rattle.network.proofs.ways.has_free_path.Goals as goal

pub returns-then-project_has_room-clause-path : goal.returns-then-project_has_room-clause-path
returns-then-project_has_room-clause-path g c t =
    let at = c.project-supervisor.ensures in
    by_project c.project-supervisor.result.0 c.project-supervisor.result.1 at (ltb-true _ _ (sym c.project_has_room.ensures ∙ c.if-project_has_room.true))
    (c.requires.formed.projects c.args.node _ _ at, ltb-true _ _ (sym c.supervisor_has_room.ensures ∙ t))

pub returns-then-node-sink-clause-path : goal.returns-then-node-sink-clause-path
returns-then-node-sink-clause-path g c t =
    let f = c.args.flow.now in
    let l = c.args.node - c.len-projects.result in
    let is : c.args.node ≡ length f.projects.items + l = omega (arith, c.if-node-projects.false, c.len-projects.ensures, f.projects.ok.0) in
    let lt : l < length f.supervisors.items = omega (arith, is, c.if-node-sink.true, c.sink.ensures) in
    by_supervisor l is (lt, ltb-true _ _ (sym c.supervisor_has_room-then-node-sink.ensures ∙ t))

pub project-supervisor-requires : goal.project-supervisor-requires
project-supervisor-requires g c = omega (arith, c.if-node-projects.true, c.len-projects.ensures, c.args.flow.now.projects.ok.0)

pub project_has_room-requires : goal.project_has_room-requires
project_has_room-requires g c = omega (arith, c.if-node-projects.true, c.len-projects.ensures, c.args.flow.now.projects.ok.0, c.requires.formed.filled)

pub supervisor_has_room-requires-clause-load : goal.supervisor_has_room-requires-clause-load
supervisor_has_room-requires-clause-load g c = let known = c.requires.formed.projects c.args.node _ _ c.project-supervisor.ensures in omega (arith, known, c.requires.formed.load)

pub supervisor_has_room-requires-clause-quota : goal.supervisor_has_room-requires-clause-quota
supervisor_has_room-requires-clause-quota g c = c.requires.formed.projects c.args.node _ _ c.project-supervisor.ensures

pub returns-then-project_has_room-clause-none : goal.returns-then-project_has_room-clause-none
returns-then-project_has_room-clause-none g c f path =
    let r = (project_free_path c.args.flow.now c.args.node _ _ c.project-supervisor.ensures path).1.1 in
    let z : true ≡ false = sym (lt-ltb _ _ r) ∙ sym c.supervisor_has_room.ensures ∙ f in cc

pub returns-else-project_has_room-clause-path : goal.returns-else-project_has_room-clause-path
returns-else-project_has_room-clause-path g c t = absurd (let z : true ≡ false = sym t ∙ c.if-project_has_room.false in cc)

pub returns-else-project_has_room-clause-none : goal.returns-else-project_has_room-clause-none
returns-else-project_has_room-clause-none g c f path =
    let r = (project_free_path c.args.flow.now c.args.node _ _ c.project-supervisor.ensures path).0 in
    let z : true ≡ false = sym (lt-ltb _ _ r) ∙ sym c.project_has_room.ensures ∙ f in cc

pub sink-requires : goal.sink-requires
sink-requires g c = record { formed = c.requires.formed }

pub supervisor_has_room-requires-then-node-sink-clause-load : goal.supervisor_has_room-requires-then-node-sink-clause-load
supervisor_has_room-requires-then-node-sink-clause-load g c =
    omega (arith, c.if-node-projects.false, c.if-node-sink.true, c.sink.ensures, c.len-projects.ensures, c.args.flow.now.projects.ok.0, c.requires.formed.load)

pub supervisor_has_room-requires-then-node-sink-clause-quota : goal.supervisor_has_room-requires-then-node-sink-clause-quota
supervisor_has_room-requires-then-node-sink-clause-quota g c = omega (arith, c.if-node-projects.false, c.if-node-sink.true, c.sink.ensures, c.len-projects.ensures, c.args.flow.now.projects.ok.0)

pub returns-then-node-sink-clause-none : goal.returns-then-node-sink-clause-none
returns-then-node-sink-clause-none g c f path =
    let l = c.args.node - c.len-projects.result in
    let is : c.args.node ≡ length c.args.flow.now.projects.items + l = omega (arith, c.if-node-projects.false, c.len-projects.ensures, c.args.flow.now.projects.ok.0) in
    let r = (supervisor_free_path c.args.flow.now c.args.node l is (omega (arith, is, c.if-node-sink.true, c.sink.ensures)) path).1 in
    let z : true ≡ false = sym (lt-ltb _ _ r) ∙ sym c.supervisor_has_room-then-node-sink.ensures ∙ f in cc

pub returns-clause-path : goal.returns-clause-path
returns-clause-path g c t = at_sink (omega (arith, c.if-node-sink.false, c.sink.ensures, c.requires.node))

pub returns-clause-none : goal.returns-clause-none
returns-clause-none g c f path = let z : true ≡ false = f in cc
