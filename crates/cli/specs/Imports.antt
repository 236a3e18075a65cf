-- The request that a line makes of an import file.
use Rattle.std.specs.Prelude.{◌≡◌, ◌≢◌, ◌⊎◌, ℕ, ◌<◌, ◌≤◌, List, length, Result, Ok, Err}
use Rattle.std.specs.declared.io.ErrorKind.{ErrorKind}
use Rattle.std.specs.declared.io.ErrorKind.TheVariants as kinds
use Rattle.office_model.specs.declared.import.ImportKind.{ImportKind}
use Rattle.office_model.specs.declared.refusal.Refusal.{Refusal}
use Rattle.office_model.specs.declared.refusal.Refusal.TheVariants as no
use Rattle.office_model.specs.declared.request.Request.{Request}
use Rattle.office_model.specs.declared.request.Request.TheVariants as request
use Rattle.office_model.specs.declared.TheConstants.{MAX_IMPORT_BYTES}
use Rattle.host.specs.WorldState.{Found, IsReadOf}

-- the request of an import of these bytes was made, or there are too many, or memory ran out for it
abbrev pub IsImportOf : List ℕ → ImportKind → List ℕ → Result Request Refusal → Type 0
IsImportOf id kind bytes (Ok asked) = (length bytes ≤ MAX_IMPORT_BYTES) × (asked ≡ request.Import id kind bytes)
IsImportOf id kind bytes (Err refusal) =
    ((MAX_IMPORT_BYTES < length bytes) × (refusal ≡ no.TooLarge)) ⊎ ((length bytes ≤ MAX_IMPORT_BYTES) × (refusal ≡ no.Memory))

-- the refusal of a file that could not be opened or read: out of memory where that was the error, and else a fault of the storage
abbrev pub IsUnreadOf : (Found → Type 0) → Refusal → Type 0
IsUnreadOf holds refusal = (kind : ErrorKind) × holds (Err kind) × (kind ≡ kinds.OutOfMemory → refusal ≡ no.Memory) × (kind ≢ kinds.OutOfMemory → refusal ≡ no.Storage)

-- the request of an import of the bytes of a file with these contents was made, or not, or the file could not be read
abbrev pub IsImportOfFile : (Found → Type 0) → List ℕ → ImportKind → Result Request Refusal → Type 0
IsImportOfFile holds id kind made =
    ((bytes : List ℕ) × IsReadOf holds MAX_IMPORT_BYTES bytes × IsImportOf id kind bytes made)
    ⊎ ((refusal : Refusal) × IsUnreadOf holds refusal × (made ≡ Err refusal))
