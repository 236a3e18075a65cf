use Rattle.cli.proofs.Common.{file_state, over_files}
use Rattle.cli.proofs.Opened.{cuts_within, left_within, of_file, tells_within}
use Rattle.cli.proofs.Writers.{prints_more}
use Rattle.cli.proofs.databases.perform_on_file.Goals as goal

pub returns-in-Ok : goal.returns-in-Ok
returns-in-Ok g c =
    let did = c.announce_and_perform-status.ensures in
    let last = c.announce_and_perform-status.result.1 in
    let lent = g.W.Ports.Ports.state c.in-Ok.ports in
    let ports = (g.W.World.state c.args.world).ports in
    record {
      first = c.in-Ok.connection;
      last = last;
      leaves = record {
        found = c.in-Ok.ensures.found;
        opened = c.in-Ok.ensures.opened;
        plain = c.in-Ok.ensures.plain;
        fresh = c.in-Ok.ensures.fresh;
        of_file = of_file _ c.in-Ok.connection (file_state last) c.in-Ok.ensures.found c.in-Ok.ensures.opened;
        left = left_within over_files lent ports c.in-Ok.ensures.ports c.args.task _ c.in-Ok.connection last did.left;
        closing = record { closed = c.close_file.ensures.closed; failed = c.close_file.ensures.failed };
      };
      printed = prints_more _ _ (λ o is. tells_within over_files lent ports c.in-Ok.ensures.ports c.args.database.now c.args.task c.in-Ok.connection last o is) _ _ _ did.printed;
      named = did.named;
      cut = cuts_within over_files lent ports c.in-Ok.ensures.ports c.args.outputs.now c.announce_and_perform-status.new.outputs c.args.task c.in-Ok.connection last did.cut;
    }

pub returns-in-Err : goal.returns-in-Err
returns-in-Err g c = prints_more _ _ (λ o is. (c.in-Err.ensures.refused.0, c.in-Err.ensures.refused.1, c.in-Err.refusal, c.in-Err.ensures.refused.2, is)) _ _ _ c.refuse.ensures
