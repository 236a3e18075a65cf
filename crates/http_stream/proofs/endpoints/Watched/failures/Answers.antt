use Rattle.std.proofs.Common.{refl}
use Rattle.http_stream.proofs.endpoints.Watched.failures.Goals as goal

pub returns : goal.returns
returns g c = refl
