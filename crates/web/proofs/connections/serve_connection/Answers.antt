use Rattle.std.proofs.Common.{◌+◌, ◌∙◌, ap}
use Rattle.http_stream.specs.Run.{read_failed, write_failed}
use Rattle.web.proofs.connections.serve_connection.Goals as goal

pub returns-clause-served : goal.returns-clause-served
returns-clause-served g c =
    let served = c.serve_stream-came.ensures in (
      _,
      c.in-Ok.ensures.came,
      _,
      c.accept.ensures.last _ c.close.ensures.left,
      record {
        served = served.available;
        read_count = served.read_count ∙ ap (λ n. n + read_failed c.serve_stream-came.result) c.in-Ok.ensures.fresh.1;
        write_count = served.write_count ∙ ap (λ n. n + write_failed c.serve_stream-came.result) c.in-Ok.ensures.fresh.2;
      },
    )
