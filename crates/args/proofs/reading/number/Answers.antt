use Rattle.args.proofs.Numbers.{is_read}
use Rattle.args.proofs.reading.number.Goals as goal

pub unwrap-requires : goal.unwrap-requires
unwrap-requires c = is_read 32 c.args.argument.now.takes c.word.result.now c.parse.result c.parse.ensures.value.0 c.requires.small c.word.ensures.fits
