-- For proofs alone. The line that words stand for, and the faults of words that are none.
use Rattle.std.specs.Prelude.{◌≡◌, ◌≢◌, ◌⊎◌, ◌<◌, ℕ, String}
use Rattle.std.specs.declared.alloc.Global.{Global}
use Rattle.clap.specs.declared.error.kind.ErrorKind.{ErrorKind}
use Rattle.clap.specs.declared.error.kind.ErrorKind.TheVariants.{DisplayHelp, DisplayVersion, OutOfMemory}
use Rattle.args.specs.declared.line.LineFault.{LineFault}
use Rattle.args.specs.declared.line.LineFault.TheVariants.{Memory, Help, Version, Fault}
use Rattle.args.specs.declared.table.Takes.{Takes}
use Rattle.args.specs.declared.table.Takes.TheVariants.{Number}

-- each number that may stand for an argument is below the bound
abbrev pub IsNumberBelow : ℕ → Takes → Type 0
IsNumberBelow bound (Number least most) = most < bound
IsNumberBelow bound _ = ⊥

-- a fault has this kind of error of `clap`'s
abbrev pub IsReportedBy : ErrorKind → LineFault → Type 0
IsReportedBy kind Memory = Unit {0}
IsReportedBy kind (Help text) = kind ≡ DisplayHelp
IsReportedBy kind (Version text) = kind ≡ DisplayVersion
IsReportedBy kind (Fault text) = (kind ≢ OutOfMemory) × (kind ≢ DisplayHelp) × (kind ≢ DisplayVersion)

-- an error of this kind with this text is this fault
abbrev pub IsFaultAs : ErrorKind → String Global → LineFault → Type 0
IsFaultAs kind text fault =
    ((kind ≡ OutOfMemory) × (fault ≡ Memory))
    ⊎ (((kind ≡ DisplayHelp) × (fault ≡ Help text))
    ⊎ (((kind ≡ DisplayVersion) × (fault ≡ Version text)) ⊎ ((kind ≢ OutOfMemory) × (kind ≢ DisplayHelp) × (kind ≢ DisplayVersion) × (fault ≡ Fault text))))
