use Rattle.std.proofs.Common.{refl}
use Rattle.http_stream.proofs.endpoints.Watched.new.Goals as goal

pub returns-clause-failures : goal.returns-clause-failures
returns-clause-failures g c = refl

pub returns-clause-open : goal.returns-clause-open
returns-clause-open g c = refl
