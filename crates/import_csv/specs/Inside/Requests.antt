-- For proofs alone. The requests of an import text.
use Rattle.std.specs.Prelude.{Bool, true, false}
use Rattle.csv.specs.declared.error.ErrorKind.{ErrorKind}
use Rattle.csv.specs.declared.error.ErrorKind.TheVariants as kind

-- an error of a reader that speaks of the records that it read: of their lengths, or of what they hold
abbrev pub is_of_form : ErrorKind → Bool
is_of_form (kind.UnequalLengths pos expected len) = true
is_of_form (kind.Utf8 pos err) = true
is_of_form (kind.Serialize why) = true
is_of_form (kind.Deserialize pos err) = true
is_of_form (kind.Io e) = false
is_of_form kind.OutOfMemory = false
