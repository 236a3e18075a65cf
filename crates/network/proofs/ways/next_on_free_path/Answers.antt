use Rattle.std.proofs.Common.{arith, ◌+◌, sym, ◌∙◌, ap}
use Rattle.network.proofs.Common.{slice_get_within, some_pair_parts, project_count}
use Rattle.network.proofs.ways.next_on_free_path.Goals as goal

pub project-supervisor-requires : goal.project-supervisor-requires
project-supervisor-requires g c = omega (arith, c.if-node-len.true, c.len.ensures, c.args.flow.now.projects.ok.0)

pub supervisor_node-requires-clause-formed : goal.supervisor_node-requires-clause-formed
supervisor_node-requires-clause-formed g c = c.requires.formed

pub supervisor_node-requires-clause-supervisor : goal.supervisor_node-requires-clause-supervisor
supervisor_node-requires-clause-supervisor g c = c.requires.formed.projects c.args.node _ _ c.project-supervisor.ensures

pub sink-requires : goal.sink-requires
sink-requires g c = record { formed = c.requires.formed }

pub returns-then-node-len : goal.returns-then-node-len
returns-then-node-len g c = (
  λ l q at. c.supervisor_node.ensures ∙ ap (λ z. project_count c.args.flow.now + z) (some_pair_parts _ _ _ _ (sym c.project-supervisor.ensures ∙ at)).0,
  λ le. absurd (omega (arith, le, c.if-node-len.true, c.len.ensures, c.args.flow.now.projects.ok.0)),
)

pub returns-else-node-len : goal.returns-else-node-len
returns-else-node-len g c = (
  λ l q at. absurd (let lt = slice_get_within c.args.flow.now.projects.items c.args.node _ at in omega (arith, lt, c.if-node-len.false, c.len.ensures, c.args.flow.now.projects.ok.0)),
  λ le. c.sink.ensures,
)
