use Rattle.std.proofs.Common.{subst}
use Rattle.args.proofs.Common.{ErrorKind, IsReportedBy}
use Rattle.args.proofs.Faults.{told_by}
use Rattle.args.proofs.reading.fault_by.Goals as goal

pub returns : goal.returns
returns c = subst (λ (k : ErrorKind). IsReportedBy k c.fault_as.result) c.kind.ensures (told_by c.kind.result c.to_string.result _ c.fault_as.ensures)
