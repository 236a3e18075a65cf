use Rattle.std.proofs.Common.{arith}
use Rattle.office.proofs.changes.ImportAllowed.{import_allowed, import_few}
use Rattle.office.proofs.changes.PlainAllowed.{changes_allowed, few_changes}
use Rattle.office.proofs.laws.allowed_law.Goals as goal

pub returns : goal.returns
returns c = record { plain = changes_allowed; few = λ q o none. omega (arith, few_changes q o none); imports = import_allowed; few_of_import = import_few }
