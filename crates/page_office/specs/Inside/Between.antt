-- What is known between the opening of a database and the closing of its file.
use Rattle.std.specs.Prelude.{◌≡◌, ℕ, List, IsTrue}
use Rattle.sqlite_disk.specs.declared.Disk as disk
use Rattle.sqlite_disk.specs.declared.Files.{Files}
use Rattle.sqlite_wal.specs.Reads.{AreClean}
use Rattle.sqlite_trees.specs.declared.store.Store.{Ghosts}
use Rattle.sqlite_store.specs.declared.store.FileStore.{FileStore}
use Rattle.sqlite.specs.State.{HasCleanDisk}
use Rattle.sqlite.specs.Held.{Held, state}
use Rattle.sqlite.specs.Closing.{IsCopied}
use Rattle.sqlite.specs.Files.{Finds, IsOpened, file_state, over_files}
use Rattle.office_model.specs.State.{State}
use Rattle.office_model.specs.Fit.{IsFit}
use Rattle.store.specs.Reading.{IsDamaged}
use Rattle.store.specs.Tables.{HasNone, Opens}
use Rattle.desk.specs.Keeping.{Keeps}
use Rattle.http_stream.specs.declared.outcome.End.{End}
use Rattle.http_stream.specs.Served.{Serves}
use Rattle.web.specs.Serving.{AnswersMessage, AtDesk, end_text, just_opened}

module _ {S : Type 0} (ghosts : Ghosts S) where
  -- the office of a database was opened, the stream was served at it, and the tables stand for the office after it
  pub record IsServedAt (stream answers : List ℕ) (first last : Held S) : Type 0 where
    pub opened : Held S
    pub office : State
    pub opens : HasCleanDisk (state ghosts opened) → Opens (state ghosts first).now (state ghosts opened).now office
    pub fit : IsFit office
    pub count : ℕ
    pub end : End
    pub next : AtDesk
    pub answered : Serves AnswersMessage end_text (just_opened office) stream answers count end next
    pub stands : Keeps (state ghosts last) next.office
    pub settled : IsTrue (state ghosts last).is_open → (state ghosts last).now ≡ (state ghosts last).committed

  -- its tables were found to be those of no office
  abbrev pub IsDamagedAt : Held S → Type 0
  IsDamagedAt first = (last : Held S) × (HasCleanDisk (state ghosts last) → IsDamaged (state ghosts first).now × (HasNone (state ghosts first).now.schema → ⊥))

module _ {D : Type 0} (g : disk.Ghosts D) where
  -- this connection was opened over the files
  pub record IsBegun (files : Files D) (first : Held (FileStore D g)) : Type 0 where
    pub opened : HasCleanDisk (file_state first) → IsOpened first
    pub found : HasCleanDisk (file_state first) → Finds files first

  -- the stream was served over the files, and those that are left were closed
  pub record IsServedBetween (files : Files D) (stream answers : List ℕ) (left : Files D) : Type 0 where
    pub first : Held (FileStore D g)
    pub begun : IsBegun files first
    pub last : Held (FileStore D g)
    pub served : IsServedAt over_files stream answers first last
    pub closed : AreClean g left.log left.db → IsCopied last left

  abbrev pub IsDamagedIn : Files D → Type 0
  IsDamagedIn files = (first : Held (FileStore D g)) × IsBegun files first × IsDamagedAt over_files first
