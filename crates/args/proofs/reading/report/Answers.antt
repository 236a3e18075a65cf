use Rattle.std.proofs.Common.{◌∙◌, ap, sym, Some}
use Rattle.args.proofs.Common.{report_kinds, report_word}
use Rattle.args.proofs.Found.{found_word}
use Rattle.args.proofs.reading.report.Goals as goal

pub returns : goal.returns
returns c = c.word.ensures.word ∙ ap Some (found_word report_word report_kinds c.unwrap.result c.word.result.now (sym c.unwrap.ensures ∙ c.report_kind.ensures))
