use Rattle.std.proofs.Common.{◌∙◌, ap, sym, Some}
use Rattle.args.proofs.Common.{word_of, import_kinds}
use Rattle.args.proofs.Found.{found_word}
use Rattle.args.proofs.reading.import.Goals as goal

pub returns : goal.returns
returns c = c.word.ensures.word ∙ ap Some (found_word word_of import_kinds c.unwrap.result c.word.result.now (sym c.unwrap.ensures ∙ c.import_kind.ensures))
