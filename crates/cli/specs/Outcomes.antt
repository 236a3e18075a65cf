-- What a line of the program comes to: what it prints where, and its status.
use Rattle.std.specs.Prelude.{◌≡◌, ◌⊎◌, ℕ, ◌+◌, ◌<◌, ◌≤◌, List, [], ◌∷◌, ◌++◌, length, flat_map, codes, decimal, string_bytes, ⊤, Option, Result, Ok, Err, String}
use Rattle.std.specs.declared.alloc.Global.{Global}
use Rattle.std.specs.Io.KnownBytes.{Appends}
use Rattle.office_model.specs.declared.import.ImportKind.{ImportKind}
use Rattle.office_model.specs.declared.refusal.Refusal.{Refusal}
use Rattle.office_model.specs.declared.refusal.Refusal.TheVariants as no
use Rattle.office_model.specs.declared.request.Plain.TheVariants as plain
use Rattle.office_model.specs.declared.request.Reply.{Reply}
use Rattle.office_model.specs.declared.request.Reply.TheVariants as reply
use Rattle.office_model.specs.declared.request.Request.{Request}
use Rattle.office_model.specs.declared.request.Request.TheVariants as request
use Rattle.office_model.specs.declared.TheConstants.{MAX_IMPORT_BYTES}
use Rattle.intake.specs.declared.TheConstants.{MAX_BYTES}
use Rattle.host.specs.WorldState.{Found, IsReadOf, Peer, PortState, some_port}
use Rattle.office_model.specs.State.{State}
use Rattle.office_model.specs.Fit.{IsFit}
use Rattle.office_model.specs.Run.{Step}
use Rattle.office_model.specs.RefusalInfo.{number_of, name_of}
use Rattle.desk.specs.layers.Layers.{layers}
use Rattle.web.specs.Connections.{AreAwaited, Connect, SomeServed, Visit, in_a_row, lines_after}
use Rattle.web.specs.declared.TheConstants.{MAX_UNACCEPTED}
use Rattle.web.specs.Serving.{AnswersOffice}
use Rattle.http_stream.specs.Run.{MessageText}
use Rattle.round_files.specs.Rounds.{IsSolved, IsChecked, IsPublished}
use Rattle.round_files.specs.Public.{IsCheckedOwn}
use Rattle.round_files.specs.declared.rounds.Trouble.{Trouble}
use Rattle.round_files.specs.declared.rounds.Trouble.TheVariants.{Refused, BadLine, Failed}
use Rattle.args.specs.declared.line.Line.{Line}
use Rattle.args.specs.declared.line.Line.TheVariants as line
use Rattle.args.specs.declared.line.LineFault.{LineFault}
use Rattle.args.specs.declared.line.LineFault.TheVariants.{Memory, Help, Version, Fault}
use Rattle.args.specs.Reading.{IsAnswer}
use Rattle.cli.specs.declared.tasks.Task.{Task}
use Rattle.cli.specs.declared.tasks.Task.TheVariants as task
use Rattle.cli.specs.Imports.{IsUnreadOf}
use Rattle.cli.specs.Outputs.{Both, Grows, both_failures}
use Rattle.cli.specs.declared.status.Status.{Status}
use Rattle.cli.specs.declared.status.Status.TheVariants.{Success, Failure, Usage}

-- what is written on standard output and on standard error, and the status
pub record Outcome : Type 0 where
  pub out : List ℕ
  pub err : List ℕ
  pub status : Status

-- a result
abbrev pub prints : List ℕ → Outcome
prints text = record { out = text; err = []; status = Success }

-- a message, with this status
abbrev pub prints_err : Status → List ℕ → Outcome
prints_err status text = record { out = []; err = text; status = status }

-- the line of a refusal with this number and this name
abbrev pub named_line : ℕ → List ℕ → List ℕ
named_line number name = codes "refused " ++ decimal number ++ codes ": " ++ name ++ 10 ∷ []

-- the line of a refusal; that of a record also names which one, and the number of its own refusal
abbrev pub refusal_line : Refusal → List ℕ
refusal_line (no.Row n inner) = codes "refused 29: Row " ++ decimal n ++ 32 ∷ decimal inner ++ 10 ∷ []
refusal_line refusal = named_line (number_of refusal) (name_of refusal)

-- a refusal
abbrev pub refused : Refusal → Outcome
refused refusal = prints_err Failure (refusal_line refusal)

-- the line of a round text's bad line
abbrev pub bad_line : ℕ → List ℕ
bad_line n = codes "bad line " ++ decimal n ++ 10 ∷ []

-- what comes of the text of a round file
abbrev pub of_round : Result (String Global) Trouble → Outcome
of_round (Ok text) = prints (string_bytes text)
of_round (Err (Refused refusal)) = refused refusal
of_round (Err (BadLine n)) = prints_err Failure (bad_line n)
of_round (Err (Failed text)) = record { out = string_bytes text; err = []; status = Failure }

-- numbers, each after a space
abbrev pub counts_text : List ℕ → List ℕ
counts_text counts = flat_map (λ n. 32 ∷ decimal n) counts

-- the line of a closed round
abbrev pub closed_line : ℕ → ℕ → List ℕ → List ℕ
closed_line round size profile =
    codes "round " ++ decimal round ++ codes " size " ++ decimal size ++ codes " profile" ++ counts_text profile ++ 10 ∷ []

-- what is printed of an answer; no line asks for the others
abbrev pub printed_reply : Reply → List ℕ
printed_reply (reply.Rows n) = codes "rows " ++ decimal n ++ 10 ∷ []
printed_reply (reply.Opened round) = codes "round " ++ decimal round ++ 10 ∷ []
printed_reply (reply.Closed round size profile) = closed_line round size profile
printed_reply (reply.Text text) = text
printed_reply _ = []

-- what comes of an answer
abbrev pub of_answer : Result Reply Refusal → Outcome
of_answer (Ok answer) = prints (printed_reply answer)
of_answer (Err refusal) = refused refusal

-- the line of a database that is new: none of the office's tables is there yet
abbrev pub new_database : List ℕ → List ℕ
new_database name = codes "new " ++ name ++ 10 ∷ []

-- an outcome that prints this line first
abbrev pub behind : List ℕ → Outcome → Outcome
behind line o = record { out = o.out; err = line ++ o.err; status = o.status }

-- what comes of a database with this name, after the line of one that is new where it is
abbrev pub OfDatabase : List ℕ → Type 0 → (Outcome → Type 0) → Outcome → Type 0
OfDatabase name IsNew Is o = (IsNew × (printed : Outcome) × Is printed × (o ≡ behind (new_database name) printed)) ⊎ ((IsNew → ⊥) × Is o)

-- the same of a database that may be new
abbrev pub MayBeNew : List ℕ → (Outcome → Type 0) → Outcome → Type 0
MayBeNew name Is o = ((printed : Outcome) × Is printed × (o ≡ behind (new_database name) printed)) ⊎ Is o

-- a file with these contents could not be read, and why is printed
abbrev pub IsUnreadFile : (Found → Type 0) → Outcome → Type 0
IsUnreadFile holds o = (refusal : Refusal) × IsUnreadOf holds refusal × (o ≡ refused refusal)

-- a line on a round file with these contents: it could not be read, or what comes of its bytes
abbrev pub OnFile : (Found → Type 0) → (List ℕ → Result (String Global) Trouble → Type 0) → Outcome → Type 0
OnFile holds Is o =
    IsUnreadFile holds o
    ⊎ ((bytes : List ℕ) × IsReadOf holds MAX_BYTES bytes × (came : Result (String Global) Trouble) × Is bytes came × (o ≡ of_round came))

-- the database could not be opened, or its tables stand for no office
abbrev pub IsUnopened : Outcome → Type 0
IsUnopened o = (o ≡ refused no.Memory) ⊎ ((o ≡ refused no.Storage) ⊎ (o ≡ refused no.Damaged))

-- a request was asked of an office, and this is what comes of the answer
pub record IsAsked (asked : Request) (before after : State) (o : Outcome) : Type 0 where
  pub answer : Result Reply Refusal
  pub step : Step layers before asked answer after
  pub is : o ≡ of_answer answer

-- the line that is printed once a port is bound
abbrev pub listening : ℕ → List ℕ
listening port = codes "listening " ++ decimal port ++ 10 ∷ []

-- the line of a port that cannot be bound
abbrev pub no_port : ℕ → List ℕ
no_port port = codes "no port " ++ decimal port ++ 10 ∷ []

-- the port could not be bound, and nothing is done at the desk
abbrev pub IsUnbound : {D : Type 0} → ℕ → D → D → Outcome → Type 0
IsUnbound port before after o = (after ≡ before) × (o ≡ prints_err Failure (no_port port))

module _ {D : Type 0} (step : D → MessageText → List ℕ → D → Type 0) (peers : ℕ → Peer) where
  -- Connections, the first that came, were served at a desk, and printed: as many as asked for, with status 0, or fewer, with status 1,
  -- since too many in a row could not be accepted.
  pub record IsServed (port count : ℕ) (before after : D) (o : Outcome) : Type 0 where
    pub came : List Visit
    pub awaited : AreAwaited 0 came
    pub served : Connect step peers before came after
    pub ends : ((length came ≡ count) × (o.status ≡ Success)) ⊎ ((length came < count) × (in_a_row 0 came ≡ MAX_UNACCEPTED) × (o.status ≡ Failure))
    pub out : o.out ≡ listening port ++ lines_after 0 came
    pub silent : o.err ≡ []

  -- Nobody was served, or the line of the port was written first, and then the lines of those who were, but for the last one's, of which a
  -- part was.
  abbrev pub ServesBehind : ℕ → ℕ → D → D → Option (List ℕ) → Option (List ℕ) → Type 0
  ServesBehind port count before after w0 w =
      (after ≡ before) ⊎ ((between : Option (List ℕ)) × Appends w0 between (listening port) × SomeServed step peers before count between w after)

module _ {D : Type 0} (step : D → MessageText → List ℕ → D → Type 0) (at : PortState) where
  -- those of this port were, or it could not be bound
  abbrev pub ServesAt : ℕ → ℕ → D → D → Outcome → Type 0
  ServesAt port count before after o = (at.is_taken × IsUnbound port before after o) ⊎ IsServed step at.peers port count before after o

-- what a task comes to at an office, and the office after it
abbrev pub ComesOf : Task → State → State → Outcome → Type 0
ComesOf (task.Ask asked) before after o = IsAsked asked before after o
ComesOf (task.Serve serving) before after o = ServesAt AnswersOffice some_port serving.port serving.count before after o

-- what a task at a database may come to: it could not be opened, or what the task comes to at a fit office
abbrev pub MayDo : Task → Outcome → Type 0
MayDo task o = IsUnopened o ⊎ ((office : State) × IsFit office × (after : State) × ComesOf task office after o)

-- what a task at the database with this name may come to
abbrev pub MayDoAt : List ℕ → Task → Outcome → Type 0
MayDoAt name task o = MayBeNew name (MayDo task) o

-- a line that imports these bytes: there are too many, or memory ran out, or what comes of the import
abbrev pub IsImportLine : List ℕ → List ℕ → ImportKind → List ℕ → Outcome → Type 0
IsImportLine name id kind bytes o =
    ((MAX_IMPORT_BYTES < length bytes) × (o ≡ refused no.TooLarge))
    ⊎ ((length bytes ≤ MAX_IMPORT_BYTES) × ((o ≡ refused no.Memory) ⊎ MayDoAt name (task.Ask (request.Import id kind bytes)) o))

-- a line that imports a file: it could not be read, or what comes of importing its bytes
abbrev pub ImportsFile : List ℕ → List ℕ → ImportKind → Outcome → Type 0
ImportsFile name id kind o = IsUnreadFile (λ _. ⊤) o ⊎ ((bytes : List ℕ) × IsImportLine name id kind bytes o)

-- what a line may come to
abbrev pub MayCome : Line → Outcome → Type 0
MayCome (line.Serve database port count) o = MayDoAt (string_bytes database) (task.Serve (record { port = port; count = count })) o
MayCome (line.Import database kind id file) o = ImportsFile (string_bytes database) (string_bytes id) kind o
MayCome (line.OpenRound database aim) o = MayDoAt (string_bytes database) (task.Ask (request.Plain (plain.OpenRound aim))) o
MayCome (line.ReopenRound database) o = MayDoAt (string_bytes database) (task.Ask (request.Plain plain.ReopenRound)) o
MayCome (line.CloseRound database) o = MayDoAt (string_bytes database) (task.Ask request.Close) o
MayCome (line.Report database kind round) o = MayDoAt (string_bytes database) (task.Ask (request.Report kind round)) o
MayCome (line.Solve file) o = OnFile (λ _. ⊤) IsSolved o
MayCome (line.Check file) o = OnFile (λ _. ⊤) IsChecked o
MayCome (line.Publish file) o = OnFile (λ _. ⊤) IsPublished o
MayCome (line.CheckOwn file own) o = OnFile (λ _. ⊤) (λ text. IsCheckedOwn text (string_bytes own)) o

-- what words may come to: what their line does, or their fault
abbrev pub MayComeOf : Result Line LineFault → Outcome → Type 0
MayComeOf (Ok line) o = MayCome line o
MayComeOf (Err Memory) o = o ≡ refused no.Memory
MayComeOf (Err (Help text)) o = o ≡ prints (string_bytes text)
MayComeOf (Err (Version text)) o = o ≡ prints (string_bytes text)
MayComeOf (Err (Fault text)) o = o ≡ prints_err Usage (string_bytes text)

-- a text was written and the status is this, or the writer failed, what it took before stays, and the status is 1
abbrev pub Printed : List ℕ → Status → Option (List ℕ) → Option (List ℕ) → ℕ → ℕ → Status → Type 0
Printed text status w0 w failures0 failures ends =
    ((failures ≡ failures0) × Appends w0 w text × (ends ≡ status))
    ⊎ ((failures ≡ failures0 + 1) × (ends ≡ Failure) × ((more : List ℕ) × Appends w0 w more))

-- One of these outcomes was written to the two outputs and its status is this, or one call of a writer failed, what the two took before
-- stays, and the status is 1.
abbrev pub Prints : {O E : Type 0} → (Outcome → Type 0) → Both O E → Both O E → Status → Type 0
Prints Is old new status =
    ((o : Outcome) × Is o × (both_failures new ≡ both_failures old) × Appends old.out.written new.out.written o.out × Appends old.err.written new.err.written o.err × (status ≡ o.status))
    ⊎ ((both_failures new ≡ both_failures old + 1) × (status ≡ Failure) × Grows old new)

-- what the words may come to
abbrev pub ComesTo : List (List ℕ) → Outcome → Type 0
ComesTo words o = (command : Result Line LineFault) × IsAnswer words command × MayComeOf command o
