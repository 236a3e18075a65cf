use Rattle.http_stream.proofs.Unique.{messages_unique}
use Rattle.http_stream.proofs.laws.one_reading.Goals as goal

pub returns : goal.returns
returns c = messages_unique
