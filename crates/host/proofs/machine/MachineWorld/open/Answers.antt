use Rattle.std.proofs.Common.{◌≡◌, ◌⊎◌, inl, inr, Option, None, Some, IfSome, refl}
use Rattle.sqlite_disk.specs.declared.Disk.{Ghosts}
use Rattle.sqlite_disk.specs.declared.Files.{Files}
use Rattle.sqlite.specs.declared.error.Error.{Error}
use Rattle.sqlite.specs.declared.error.Error.TheVariants.{SqliteFailure}
use Rattle.sqlite.specs.declared.error.ErrorCode.TheVariants.{CannotOpen, OutOfMemory, DatabaseBusy}
use Rattle.sqlite.specs.declared.file.Leftover.{Leftover}
use Rattle.sqlite.specs.Files.{IsCleanLeft, FailsToOpenFiles, LeavesFiles}
use Rattle.host.specs.WorldState.{FailsToOpen}
use Rattle.host.proofs.machine.MachineWorld.open.Goals as goal

-- whether files were found or not
fails : {D : Type 0} (g : Ghosts D) (P Q : Files D → Type 0) (error : Error) (left : Option (Leftover D g))
    → (left ≡ None → (error ≡ SqliteFailure CannotOpen) ⊎ ((error ≡ SqliteFailure OutOfMemory) ⊎ (error ≡ SqliteFailure DatabaseBusy)))
    → IfSome left (λ left. (files : Files D) × P files × Q files × (IsCleanLeft left → FailsToOpenFiles files left error × LeavesFiles files left)) → FailsToOpen g (λ files. P files × Q files) error
fails g P Q error None unopened cause = inl (unopened refl)
fails g P Q error (Some left) unopened cause = inr (cause.0, (cause.1, cause.2), left, cause.3)

pub returns-clause-refused : goal.returns-clause-refused
returns-clause-refused g c = fails _ _ _ c.in-Err.error c.in-Err.field-0-1 c.in-Err.ensures.unopened c.in-Err.ensures.cause
