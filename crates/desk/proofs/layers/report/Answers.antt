use Rattle.std.proofs.Common.{rules}
use Rattle.desk.proofs.layers.report.Goals as goal

pub returns-clause-made : goal.returns-clause-made
returns-clause-made c = search rules

pub returns-in_err-told-clause-refused : goal.returns-in_err-told-clause-refused
returns-in_err-told-clause-refused c = search rules
