-- What a line does at a database and leaves of it, and what comes of closing the file.
use Rattle.std.specs.Prelude.{◌≡◌, ◌≢◌, ◌⊎◌, ◌+◌, ℕ, ⊤, false, List, ◌++◌, string_bytes, Option, Some, None, Result, Ok, Err, IfOk, IfErr}
use Rattle.sqlite_disk.specs.declared.Disk as disk
use Rattle.sqlite_disk.specs.declared.Files.{Files}
use Rattle.sqlite_wal.specs.Reads.{AreClean}
use Rattle.sqlite_trees.specs.declared.store.Store.{Ghosts}
use Rattle.sqlite_trees.specs.View.{IsClean}
use Rattle.sqlite_store.specs.declared.store.FileStore.{FileStore}
use Rattle.sqlite_store.specs.FileStore.{view}
use Rattle.sqlite.specs.declared.error.Error.{Error}
use Rattle.sqlite.specs.declared.error.Error.TheVariants.{SqliteFailure}
use Rattle.sqlite.specs.declared.error.ErrorCode.TheVariants.{OutOfMemory}
use Rattle.sqlite.specs.Effect.{Database, IsDatabase}
use Rattle.sqlite.specs.State.{State as Seen, HasCleanDisk, IsLive}
use Rattle.sqlite.specs.Held.{Held, IsNew, state}
use Rattle.sqlite.specs.Files.{HoldsDatabase, IsBlankAs, IsClosed, IsOpened, FailsToClose, file_state, over_files}
use Rattle.sqlite.specs.Start.{FindsIn}
use Rattle.sqlite_wal.specs.Recovery.{Image}
use Rattle.sqlite_trees.specs.Tree.{Trees}
use Rattle.sqlite.specs.Closing.{IsCopied}
use Rattle.office_model.specs.declared.refusal.Refusal.{Refusal}
use Rattle.office_model.specs.declared.refusal.Refusal.TheVariants as no
use Rattle.office_model.specs.declared.request.Plain.TheVariants as plain
use Rattle.office_model.specs.declared.request.Reply.{Reply}
use Rattle.office_model.specs.declared.request.Request.{Request}
use Rattle.office_model.specs.declared.request.Request.TheVariants as request
use Rattle.office_model.specs.State.{State, empty}
use Rattle.office_model.specs.Fit.{IsFit}
use Rattle.sql_tables.specs.Causes.{IsStopped}
use Rattle.sql_tables.specs.Steps.{IsKept}
use Rattle.store.specs.Causes.{IsHinderedOpening}
use Rattle.store.specs.Reading.{IsDamaged}
use Rattle.store.specs.declared.edition.Edition.{Edition}
use Rattle.store.specs.Tables.{HasNone, StandsIn}
use Rattle.desk.specs.Keeping.{Keeps}
use Rattle.desk.specs.DeskState.{DeskState, IsOpened as IsDeskOpened}
use Rattle.web.specs.Connections.{Connect, Visit}
use Rattle.web.specs.Serving.{AnswersFrom, GetsAt}
use Rattle.host.specs.WorldState.{PortState, WorldState}
use Rattle.round_files.specs.Rounds.{IsSolved, IsChecked, IsPublished}
use Rattle.round_files.specs.Public.{IsCheckedOwn}
use Rattle.args.specs.declared.line.Line.{Line}
use Rattle.args.specs.declared.line.Line.TheVariants as line
use Rattle.args.specs.declared.line.LineFault.{LineFault}
use Rattle.args.specs.Reading.{IsAnswer}
use Rattle.cli.specs.declared.tasks.Task.{Task}
use Rattle.cli.specs.declared.tasks.Task.TheVariants as task
use Rattle.std.specs.Io.KnownBytes.{Appends}
use Rattle.cli.specs.Outputs.{Both, HasCut, both_failures}
use Rattle.cli.specs.Imports.{IsImportOfFile}
use Rattle.cli.specs.Outcomes.{MayComeOf, OfDatabase, OnFile, Outcome, ServesAt, ServesBehind, Prints, new_database, of_answer, refused}
use Rattle.cli.specs.declared.status.Status.{Status}
use Rattle.cli.specs.declared.status.Status.TheVariants.{Failure}

-- a disk that is clean after a task was clean before it
abbrev pub WasClean : Seen → Seen → Type 0
WasClean before after = HasCleanDisk after → HasCleanDisk before

-- the office that is opened of a database: the empty one where none of the tables is there, else that for which they stand in some edition
abbrev pub IsOfficeOf : Database → State → Type 0
IsOfficeOf db office = (HasNone db.schema × (office ≡ empty)) ⊎ ((e : Edition) × StandsIn e db office)

-- a task is done at the office of the database before, unless the disk has given back what was not written
abbrev pub IsFoundFor : Seen → Seen → State → Type 0
IsFoundFor before after office = HasCleanDisk after → HasCleanDisk before × IsOfficeOf before.now office

-- why the office of a database is not opened: out of memory, by a fault of the storage, or since its tables are damaged
abbrev pub IsWhyUnopened : Refusal → Seen → Seen → Type 0
IsWhyUnopened refusal before after =
    (refusal ≡ no.Memory)
    ⊎ (((refusal ≡ no.Storage) × (before.in_transaction ≡ false → HasCleanDisk after → IsStopped IsHinderedOpening before after))
    ⊎ ((refusal ≡ no.Damaged) × (HasCleanDisk after → IsDamaged before.now × (HasNone before.now.schema → ⊥))))

-- the database is as before
abbrev pub StaysSo : Seen → Seen → Type 0
StaysSo before after = HasCleanDisk after → IsKept before after

-- The office of the database is not opened: why is printed, and the database stays.
pub record IsNotDone (before after : Seen) (o : Outcome) : Type 0 where
  pub refusal : Refusal
  pub why : IsWhyUnopened refusal before after
  pub printed : o ≡ refused refusal
  pub stays : StaysSo before after

module _ {S : Type 0} (ghosts : Ghosts S) (ports : ℕ → PortState) where
  -- What a task comes to at a desk over its tables: of the answer of its request, or of the connections served. Each fault of the storage
  -- that it is answered by, or a client of a connection, has its cause in the tables as they stood then.
  abbrev pub ComesFrom : Task → DeskState S → DeskState S → Outcome → Type 0
  ComesFrom (task.Ask asked) before after o = (answer : Result Reply Refusal) × GetsAt ghosts before asked answer after × (o ≡ of_answer answer)
  ComesFrom (task.Serve serving) before after o = ServesAt (AnswersFrom ghosts) (ports serving.port) serving.port serving.count before after o

  -- what a task makes of what is at a desk: one step of its request, or what its connections make
  abbrev pub TakesTo : Task → DeskState S → DeskState S → Type 0
  TakesTo (task.Ask asked) before after = (answer : Result Reply Refusal) × GetsAt ghosts before asked answer after
  TakesTo (task.Serve serving) before after = (came : List Visit) × Connect (AnswersFrom ghosts) (ports serving.port).peers before came after

  -- where a writer failed, nobody was served before the line of the port was written
  abbrev pub CutsOff : {O E : Type 0} → Both O E → Both O E → Task → DeskState S → DeskState S → Type 0
  CutsOff old new (task.Ask asked) before after = ⊤
  CutsOff old new (task.Serve serving) before after =
      both_failures new ≡ both_failures old + 1 → ServesBehind (AnswersFrom ghosts) (ports serving.port).peers serving.port serving.count before after old.out.written new.out.written

module _ {S : Type 0} (ghosts : Ghosts S) where
  -- The office of the database was opened at this desk, this was done there, and the tables stand for the office after it. A disk that is
  -- clean at the end was clean when the office was opened.
  pub record IsDone (Done : DeskState S → DeskState S → Type 0) (first last : Held S) : Type 0 where
    pub desk : DeskState S
    pub found : IsFoundFor (state ghosts first) (state ghosts last) desk.office
    pub opened : IsDeskOpened ghosts first desk
    pub fit : IsFit desk.office
    pub live : IsLive (state ghosts desk.store)
    pub clean : WasClean (state ghosts desk.store) (state ghosts last)
    pub next : DeskState S
    pub done : Done desk next
    pub given_back : last ≡ next.store
    pub stands : Keeps (state ghosts last) next.office

module _ {S : Type 0} (ghosts : Ghosts S) (ports : ℕ → PortState) where
  -- what a task at a database comes to, and what the database is then
  abbrev pub DoesOver : Task → Held S → Held S → Outcome → Type 0
  DoesOver done first last o =
      IsNotDone (state ghosts first) (state ghosts last) o ⊎ IsDone ghosts (λ desk next. ComesFrom ghosts ports done desk next o) first last

  -- What a task with this status leaves of a database, whether or not it could be printed: what it makes of the office, or, where that was
  -- not opened, with status 1, the database as it was.
  abbrev pub LeftBy : Task → Status → Held S → Held S → Type 0
  LeftBy done status first last =
      IsDone ghosts (TakesTo ghosts ports done) first last ⊎ ((status ≡ Failure) × StaysSo (state ghosts first) (state ghosts last))

  -- the same of a task at a database, whose office may not have been opened
  abbrev pub CutsOver : {O E : Type 0} → Both O E → Both O E → Task → Held S → Held S → Type 0
  CutsOver old new done first last = IsDone ghosts (CutsOff ghosts ports old new done) first last ⊎ StaysSo (state ghosts first) (state ghosts last)

  -- what is printed of a task at the database with this name: the name first, where none of the tables is there yet, then what it comes to
  abbrev pub PrintsOver : List ℕ → Task → Held S → Held S → Outcome → Type 0
  PrintsOver name done first last = OfDatabase name (HasNone (state ghosts first).now.schema) (DoesOver done first last)

-- What comes of closing a database file: the last commit is in the file alone, or memory ran out or the disk failed, and the two
-- files hold it as before.
pub record IsClosing {D : Type 0} {g : disk.Ghosts D} (last : Held (FileStore D g)) (came : Result (Files D) (Error × FileStore D g)) : Type 0 where
  pub closed : IfOk came (λ files. AreClean g files.log files.db → IsCopied last files)
  pub failed : IfErr came (λ e. IsClosed last e.1 × (IsClean (view e.1) → FailsToClose last e.1 e.0))

-- the office that the one database stands for which these first contents hold
abbrev pub IsOfficeIn : Image → State → Type 0
IsOfficeIn image office = (db : Trees) → HoldsDatabase image db → (it : Database) × IsDatabase it × (it.trees ≡ db) × IsOfficeOf it office

-- what came of closing a database file, where one was opened
abbrev pub Came : (D : Type 0) → disk.Ghosts D → Type 0
Came D g = Option (Result (Files D) (Error × FileStore D g))

-- What is left of the database file with this name: it was opened, with its first contents, a task was done over it, and it was closed, to
-- this end. The office that was found is the one of the file.
pub record LeavesFile {D : Type 0} {g : disk.Ghosts D} (world : WorldState) (name : List ℕ) (done : Task)
    (first last : Held (FileStore D g)) (came : Result (Files D) (Error × FileStore D g)) (status : Status) : Type 0 where
  pub found : HasCleanDisk (file_state first) → FindsIn (world.image name) (file_state first)
  pub opened : HasCleanDisk (file_state first) → IsOpened first
  pub plain : HasCleanDisk (file_state first) → IsBlankAs false (world.image name) → (view first.store).has_sums ≡ false
  pub fresh : IsNew first
  pub of_file : (office : State) → IsFoundFor (file_state first) (file_state last) office → HasCleanDisk (file_state last) → IsOfficeIn (world.image name) office
  pub left : LeftBy over_files world.ports done status first last
  pub closing : IsClosing last came

-- The line of a database that is new was written before all else, or a part of it alone, and nothing was done.
abbrev pub IsNamedFirst : {O E : Type 0} → List ℕ → Type 0 → Both O E → Both O E → Type 0
IsNamedFirst name IsNothing old new =
    ((more : List ℕ) × Appends old.err.written new.err.written (new_database name ++ more)) ⊎ (HasCut (new_database name) old new × IsNothing)

-- a task was done over the database file with this name: what is left of it, and what was printed, of one connection
pub record DoneOver {D : Type 0} {g : disk.Ghosts D} {O E : Type 0} (world : WorldState) (name : List ℕ) (done : Task)
    (came : Result (Files D) (Error × FileStore D g)) (old new : Both O E) (status : Status) : Type 0 where
  pub first : Held (FileStore D g)
  pub last : Held (FileStore D g)
  pub leaves : LeavesFile world name done first last came status
  pub printed : Prints (PrintsOver over_files world.ports name done first last) old new status
  pub named : HasNone (file_state first).now.schema → IsNamedFirst name (last ≡ first) old new
  pub cut : CutsOver over_files world.ports old new done first last

-- the refusal of a database file that is not opened by this fault
abbrev pub IsRefusalOf : Error → Refusal → Type 0
IsRefusalOf error refusal = (error ≡ SqliteFailure OutOfMemory → refusal ≡ no.Memory) × (error ≢ SqliteFailure OutOfMemory → refusal ≡ no.Storage)

-- the database file with this name could not be opened, and why is printed
abbrev pub IsUnfound : WorldState → List ℕ → Outcome → Type 0
IsUnfound world name o = (error : Error) × world.refuses name error × (refusal : Refusal) × IsRefusalOf error refusal × (o ≡ refused refusal)

module _ {D : Type 0} {g : disk.Ghosts D} {O E : Type 0} (world : WorldState) where
  -- a task was done over the file with this name, or it could not be opened
  abbrev pub DoneAt : List ℕ → Task → Came D g → Both O E → Both O E → Status → Type 0
  DoneAt name done (Some came) old new status = DoneOver world name done came old new status
  DoneAt name done None old new status = Prints (IsUnfound world name) old new status

  -- what was made of an import file was asked over the file with this name, or was refused, and nothing was opened
  abbrev pub AskedAt : List ℕ → Result Request Refusal → Came D g → Both O E → Both O E → Status → Type 0
  AskedAt name (Ok asked) came old new status = DoneAt name (task.Ask asked) came old new status
  AskedAt name (Err refusal) came old new status = (came ≡ None) × Prints (λ o. o ≡ refused refusal) old new status

  -- a line was done at the database file that it names, if it names one
  abbrev pub LineAt : Line → Came D g → Both O E → Both O E → Status → Type 0
  LineAt (line.Serve database port count) came old new status = DoneAt (string_bytes database) (task.Serve (record { port = port; count = count })) came old new status
  LineAt (line.Import database kind id file) came old new status =
      (made : Result Request Refusal) × IsImportOfFile (world.holds (string_bytes file)) (string_bytes id) kind made × AskedAt (string_bytes database) made came old new status
  LineAt (line.OpenRound database aim) came old new status = DoneAt (string_bytes database) (task.Ask (request.Plain (plain.OpenRound aim))) came old new status
  LineAt (line.ReopenRound database) came old new status = DoneAt (string_bytes database) (task.Ask (request.Plain plain.ReopenRound)) came old new status
  LineAt (line.CloseRound database) came old new status = DoneAt (string_bytes database) (task.Ask request.Close) came old new status
  LineAt (line.Report database kind round) came old new status = DoneAt (string_bytes database) (task.Ask (request.Report kind round)) came old new status
  LineAt (line.Solve file) came old new status = (came ≡ None) × Prints (OnFile (world.holds (string_bytes file)) IsSolved) old new status
  LineAt (line.Check file) came old new status = (came ≡ None) × Prints (OnFile (world.holds (string_bytes file)) IsChecked) old new status
  LineAt (line.Publish file) came old new status = (came ≡ None) × Prints (OnFile (world.holds (string_bytes file)) IsPublished) old new status
  LineAt (line.CheckOwn file own) came old new status = (came ≡ None) × Prints (OnFile (world.holds (string_bytes file)) (λ text. IsCheckedOwn text (string_bytes own))) old new status

  -- the line of the words was done so, or their fault was printed, and nothing was opened
  abbrev pub CommandAt : Result Line LineFault → Came D g → Both O E → Both O E → Status → Type 0
  CommandAt (Ok line) came old new status = LineAt line came old new status
  CommandAt (Err fault) came old new status = (came ≡ None) × Prints (MayComeOf (Err fault)) old new status

  -- the same of any words that are read so
  abbrev pub WordsAt : List (List ℕ) → Came D g → Both O E → Both O E → Status → Type 0
  WordsAt words came old new status = (command : Result Line LineFault) × IsAnswer words command × CommandAt command came old new status
