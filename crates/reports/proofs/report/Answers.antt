use Rattle.std.proofs.Common.{rules}
use Rattle.reports.proofs.report.Goals as goal

pub returns-clause-known : goal.returns-clause-known
returns-clause-known c = search rules

pub returns-clause-text : goal.returns-clause-text
returns-clause-text c = search rules
