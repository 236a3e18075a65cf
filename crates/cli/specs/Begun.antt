-- What comes of the words and the standard input that the program is given.
use Rattle.std.specs.Prelude.{◌≡◌, ◌≢◌, ℕ, ◌<◌, ◌≤◌, List, length, codes, Option, None, Result, Ok, Err}
use Rattle.std.specs.declared.io.ErrorKind.{ErrorKind}
use Rattle.std.specs.declared.io.ErrorKind.TheVariants as kinds
use Rattle.sqlite_disk.specs.declared.Disk as disk
use Rattle.office_model.specs.declared.refusal.Refusal.TheVariants as no
use Rattle.host.specs.WorldState.{WorldState}
use Rattle.cli.specs.Outputs.{Both}
use Rattle.cli.specs.Outcomes.{Outcome, Prints, prints_err, refused}
use Rattle.cli.specs.Databases.{Came, WordsAt}
use Rattle.cli.specs.Anew.{StreamsAnew}
use Rattle.cli.specs.declared.status.Status.{Status}
use Rattle.cli.specs.declared.status.Status.TheVariants.{Success, Failure, Usage}

-- the stream was served to standard output alone, and no file was opened
pub record IsStreamDone {C O E : Type 0} (left0 left : Option (List ℕ)) (came : Option C) (old new : Both O E) (status : Status) : Type 0 where
  pub stream : StreamsAnew left0 old.out.written left new.out.written status
  pub silent : new.err ≡ old.err
  pub no_file : came ≡ None

-- the number by which the system knows a status
abbrev pub number_of : Status → ℕ
number_of Success = 0
number_of Failure = 1
number_of Usage = 2

-- what is printed where an argument is not UTF-8, as `clap` words a fault of the command
abbrev pub not_utf8 : Outcome
not_utf8 = prints_err Usage (codes "error: invalid UTF-8 was detected in one or more arguments\n\nUsage: spadesk <COMMAND>\n\nFor more information, try '--help'.\n")

-- what is printed of an error of this kind that reading the words gave
abbrev pub OfUnread : ErrorKind → Outcome → Type 0
OfUnread kind o = (kind ≡ kinds.OutOfMemory → o ≡ refused no.Memory) × (kind ≢ kinds.OutOfMemory → o ≡ not_utf8)

module _ {D : Type 0} {g : disk.Ghosts D} {O E R : Type 0} (world : WorldState) (before after : R) (left0 left : Option (List ℕ)) where
  -- A line of more than one word was done, or the stream was served, or it was printed why the words could not be read. Where there is no
  -- stream to serve it was not read, and where there is no line no file was opened.
  abbrev pub Follows : Result (List (List ℕ)) ErrorKind → Came D g → Both O E → Both O E → Status → Type 0
  Follows (Ok words) came old new status =
      (1 < length words → (after ≡ before) × WordsAt world words came old new status)
      × (length words ≤ 1 → IsStreamDone left0 left came old new status)
  Follows (Err kind) came old new status = (after ≡ before) × (came ≡ None) × Prints (OfUnread kind) old new status

  -- that is what was done of the words of a world
  abbrev pub IsAllDone : Came D g → Both O E → Both O E → Status → Type 0
  IsAllDone came old new status = (said : Result (List (List ℕ)) ErrorKind) × world.said said × Follows said came old new status

-- All was done that the program does with the world and the streams that a host lent it, these were given back, and this number is that of
-- the status.
pub record IsStarted (D : Type 0) (g : disk.Ghosts D) {W R O E : Type 0} (state : W → WorldState) (left : R → Option (List ℕ)) (both : O → E → Both O E)
    (Lends : W → R → O → E → Type 0) (Takes : R → O → E → Type 0) (number : ℕ) : Type 0 where
  pub world : W
  pub reader : R
  pub out : O
  pub err : E
  pub lent : Lends world reader out err
  pub last_reader : R
  pub last_out : O
  pub last_err : E
  pub taken : Takes last_reader last_out last_err
  pub came : Came D g
  pub status : Status
  pub done : IsAllDone (state world) reader last_reader (left reader) (left last_reader) came (both out err) (both last_out last_err) status
  pub is : number ≡ number_of status
