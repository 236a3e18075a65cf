-- Each row of the table is the route of its row.
use Rattle.std.proofs.Common.{refl}
use Rattle.http_api.specs.Routes.{all_routes}
use Rattle.http_api.proofs.routes.routes.Goals as goal

pub returns : goal.returns
unfolding all_routes
returns c =
    rw (
      c.import.ensures,
      c.import-2.ensures,
      c.import-3.ensures,
      c.import-4.ensures,
      c.list.ensures,
      c.read.ensures,
      c.entry.ensures,
      c.numbered.ensures,
      c.numbered-2.ensures,
      c.numbered-3.ensures,
      c.numbered-4.ensures,
      c.numbered-5.ensures,
      c.numbered-6.ensures,
      c.numbered-7.ensures,
      c.asked.ensures,
      c.asked-2.ensures,
      c.numbered-8.ensures,
      c.opens.ensures,
      c.read-2.ensures,
      c.entry-2.ensures,
      c.entry-3.ensures,
    ) refl
