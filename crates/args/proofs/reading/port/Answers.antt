use Rattle.std.proofs.Common.{arith}
use Rattle.args.proofs.Common.{Number}
use Rattle.args.proofs.Numbers.{is_read}
use Rattle.args.proofs.reading.port.Goals as goal

pub unwrap-requires : goal.unwrap-requires
unwrap-requires c = is_read 16 (Number 1 65535) c.word.result.now c.parse.result c.parse.ensures.value.0 (omega arith) c.word.ensures.fits
