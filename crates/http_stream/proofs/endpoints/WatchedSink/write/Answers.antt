use Rattle.std.proofs.Common.{refl}
use Rattle.http_stream.proofs.endpoints.WatchedSink.write.Goals as goal

pub returns-in-Ok-eq0-clause-count : goal.returns-in-Ok-eq0-clause-count
returns-in-Ok-eq0-clause-count g c = refl
