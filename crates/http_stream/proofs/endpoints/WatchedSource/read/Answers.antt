use Rattle.std.proofs.Common.{rules}
use Rattle.http_stream.proofs.endpoints.WatchedSource.read.Goals as goal

pub returns-in-Ok-clause-end : goal.returns-in-Ok-clause-end
returns-in-Ok-clause-end g c = search rules

pub returns-in-Err-clause-count : goal.returns-in-Err-clause-count
returns-in-Err-clause-count g c = search rules
