-- What is outside of the program, as contracts see it. A relation here holds of what was found: no code makes it hold but by looking.
use Rattle.std.specs.Prelude.{◌≡◌, ◌⊎◌, ◌+◌, ℕ, List, take, ⊤, Option, IfSome, Result, Ok}
use Rattle.std.specs.declared.io.ErrorKind.{ErrorKind}
use Rattle.sqlite_disk.specs.declared.Disk.{Ghosts}
use Rattle.sqlite_disk.specs.declared.Files.{Files}
use Rattle.sqlite.specs.declared.error.Error.{Error}
use Rattle.sqlite.specs.declared.error.Error.TheVariants.{SqliteFailure}
use Rattle.sqlite.specs.declared.error.ErrorCode.TheVariants.{CannotOpen, OutOfMemory, DatabaseBusy}
use Rattle.sqlite.specs.declared.file.Leftover.{Leftover}
use Rattle.sqlite.specs.Files.{IsCleanLeft, FailsToOpenFiles, LeavesFiles}
use Rattle.sqlite_wal.specs.Recovery.{Image}

-- what there is to read, where that is known, or by which kind of error it could not be opened or read
abbrev pub Found : Type 0
Found = Result (Option (List ℕ)) ErrorKind

-- the two ends of a connection: what is left to read and what was written, where they are known, and how many calls of each failed
pub record Ends : Type 0 where
  pub left : Option (List ℕ)
  pub written : Option (List ℕ)
  pub read_failures : ℕ
  pub write_failures : ℕ

-- who connects: how the connection came, or that it could not be accepted, and how it was left
pub record Peer : Type 1 where
  pub comes : Option Ends → Type 0
  pub leaves : Ends → Type 0

-- what is known of one is known of the other
pub record IsPeer (one other : Peer) : Type 0 where
  pub comes : (ends : Option Ends) → one.comes ends → other.comes ends
  pub leaves : (ends : Ends) → one.leaves ends → other.leaves ends

-- a port: who connects to it, in order, and whether it cannot be bound
pub record PortState : Type 1 where
  pub peers : ℕ → Peer
  pub is_taken : Type 0

-- a port of which nothing is known
abbrev pub some_port : PortState
some_port = record { peers = λ _. record { comes = λ _. ⊤; leaves = λ _. ⊤ }; is_taken = ⊤ }

-- what is known of one is known of the other
pub record Within (one other : PortState) : Type 0 where
  pub peers : (n : ℕ) → IsPeer (one.peers n) (other.peers n)
  pub is_taken : one.is_taken → other.is_taken

-- the words of the command line, or why they cannot be read; by name the files, the first contents of database files, and why one is not
-- opened; and the ports
pub record WorldState : Type 1 where
  pub said : Result (List (List ℕ)) ErrorKind → Type 0
  pub holds : List ℕ → Found → Type 0
  pub image : List ℕ → Image
  pub refuses : List ℕ → Error → Type 0
  pub ports : ℕ → PortState

-- these bytes are those of a file, up to the first one above this many
abbrev pub IsReadOf : (Found → Type 0) → ℕ → List ℕ → Type 0
IsReadOf holds most bytes = (all : Option (List ℕ)) × holds (Ok all) × IfSome all (λ all. bytes ≡ take (most + 1) all)

-- a database file is not opened by this fault: it cannot be found, or what was found there is why
abbrev pub FailsToOpen : {D : Type 0} (g : Ghosts D) → (Files D → Type 0) → Error → Type 0
FailsToOpen {D} g AreFound error =
    ((error ≡ SqliteFailure CannotOpen) ⊎ ((error ≡ SqliteFailure OutOfMemory) ⊎ (error ≡ SqliteFailure DatabaseBusy)))
    ⊎ ((files : Files D) × AreFound files × (left : Leftover D g) × (IsCleanLeft left → FailsToOpenFiles files left error × LeavesFiles files left))
