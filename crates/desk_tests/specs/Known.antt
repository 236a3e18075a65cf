-- A world in memory of which all is known, and what a command prints there.
use Rattle.std.specs.Prelude.{◌≡◌, ◌≢◌, ◌⊎◌, ℕ, zero, suc, List, [], ◌∷◌, codes, Option, Some, None, option_map, Result, Ok, Err}
use Rattle.std.specs.declared.io.ErrorKind.{ErrorKind}
use Rattle.std.specs.declared.io.ErrorKind.TheVariants as kinds
use Rattle.office_model.specs.declared.refusal.Refusal.TheVariants as no
use Rattle.sqlite_disk.specs.declared.Disk.{Ghosts}
use Rattle.sqlite_disk.specs.declared.Files.{Files}
use Rattle.sqlite.specs.Files.{image_of}
use Rattle.host.specs.WorldState.{Ends, FailsToOpen, Found, Peer, PortState, WorldState}
use Rattle.cli.specs.Outcomes.{Outcome, refused}
use Rattle.cli.specs.Solving.{SolvesText}

-- its words, unless memory runs out for them
abbrev pub said_of : List (List ℕ) → Result (List (List ℕ)) ErrorKind → Type 0
said_of words said = (said ≡ Ok words) ⊎ (said ≡ Err kinds.OutOfMemory)

-- its one file, with this name and these bytes, unless memory runs out for them
abbrev pub holds_of : List ℕ → List ℕ → List ℕ → Found → Type 0
holds_of name text path found =
    (found ≡ Err kinds.OutOfMemory) ⊎ (((path ≡ name) × (found ≡ Ok (Some text))) ⊎ ((path ≢ name) × (found ≡ Err kinds.NotFound)))

-- the call with this number, from 0
abbrev pub call_at : List (List ℕ) → ℕ → Option (List ℕ)
call_at [] n = None
call_at (call ∷ more) zero = Some call
call_at (call ∷ more) (suc n) = call_at more n

-- a connection with these bytes to read
abbrev pub ends_of : List ℕ → Ends
ends_of bytes = record { left = Some bytes; written = Some []; read_failures = 0; write_failures = 0 }

-- what is left of a connection is known
pub record IsKnown (ends : Ends) : Type 0 where
  pub left : List ℕ
  pub left_is : ends.left ≡ Some left
  pub written : List ℕ
  pub written_is : ends.written ≡ Some written

-- the one who calls with this number, from 0, where there is one
abbrev pub peer_of : List (List ℕ) → ℕ → Peer
peer_of calls n = record { comes = λ ends. ends ≡ option_map ends_of (call_at calls n); leaves = IsKnown }

-- the one port that is free is 7
abbrev pub port_of : List (List ℕ) → ℕ → PortState
port_of calls port = record { peers = peer_of calls; is_taken = port ≢ 7 }

-- the world with these words, this one file, these files of its database, and these who call
abbrev pub world_of : {D : Type 0} → Ghosts D → List (List ℕ) → List ℕ → List ℕ → Files D → List (List ℕ) → WorldState
world_of g words name text disks calls = record {
  said = said_of words;
  holds = holds_of name text;
  image = λ _. image_of g disks;
  refuses = λ _ error. FailsToOpen g (λ files. files ≡ disks) error;
  ports = port_of calls;
}

-- What `spadesk solve round.txt` prints in a world whose one file has this name and these bytes: the refusal of memory that ran out, or
-- what comes of solving these bytes where it is that file, and where it is another one the refusal of a file that is not read.
abbrev pub Tells : List ℕ → List ℕ → Outcome → Type 0
Tells name text o =
    (o ≡ refused no.Memory) ⊎ (((codes "round.txt" ≡ name) × SolvesText text o) ⊎ ((codes "round.txt" ≢ name) × (o ≡ refused no.Storage)))
