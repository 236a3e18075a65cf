use Rattle.std.proofs.Common.{◌∙◌}
use Rattle.args.proofs.Common.{found_of, first_value-rows}
use Rattle.args.proofs.reading.given_word.Goals as goal

pub returns : goal.returns
returns c = c.get_str.ensures ∙ first_value-rows (found_of c.args.given.now) c.args.argument.now.name.now
