-- A fault that is handed on.
use Rattle.office.proofs.from_rows.Common.{◌≡◌, Result, Ok, Err, sym, ap}
use Rattle.std.specs.Result.{IsErrAnd}
use Rattle.office.specs.declared.from_rows.fault.RowsFault.{RowsFault}
use Rattle.office.specs.declared.from_rows.fault.RowsFault.TheVariants.{Memory, Unfit}

-- it is the one that was met
pub handed_on : {A B : Type 0} (result : Result A RowsFault) (fault : RowsFault) → IsErrAnd result (λ e. e ≡ fault) → result ≡ Err Unfit → ◌≡◌ {A = Result B RowsFault} (Err fault) (Err Unfit)
handed_on (Ok x) fault same is = cc
handed_on (Err Memory) fault same is = cc
handed_on (Err Unfit) fault same is = ap Err (sym same)
