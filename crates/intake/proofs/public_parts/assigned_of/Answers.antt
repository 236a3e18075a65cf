use Rattle.std.proofs.Common.{◌≡◌, map, length, slice_get, Some, sym, rules}
use Rattle.intake.proofs.Common.{length-map}
use Rattle.intake.proofs.Posting.{assigned_found}
use Rattle.intake.proofs.public_parts.assigned_of.Goals as goal

pub returns : goal.returns
returns c =
    let known = map (λ e. e.0) c.args.projects.now in
    let first : slice_get c.args.list.now 0 ≡ Some c.as_str.result.now = search rules in
    let assigned = assigned_found known c.args.list.now (length c.args.projects.now) c.as_str.result.now c.position_of.result c.requires.list (sym (length-map c.args.projects.now (λ e. e.0))) first c.position_of.ensures in
    record { list = assigned.0; known = assigned.1 }
