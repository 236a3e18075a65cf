-- What was done at a file is an outcome of the task, of the line, and of the words.
use Rattle.std.proofs.Common.{◌≡◌, ◌⊎◌, inl, inr, ℕ, List, codes, string_bytes, Some, None, Result, Ok, Err, MatchResult, String, ap, refl, sym, subst}
use Rattle.cli.proofs.Common.{⊤, WorldState, Trouble, Global, over_files, Refusal, Request, LineFault, IsAnswer, Task, Both, ComesTo, ImportsFile, MayCome, MayDo, MayDoAt, OfDatabase, OnFile, Outcome, Prints, refused, AskedAt, Came, CommandAt, DoneAt, IsRefusalOf, IsUnfound, LineAt, WordsAt, Status}
use Rattle.sqlite_disk.specs.declared.Disk.{Ghosts}
use Rattle.sqlite.specs.declared.error.Error.{Error}
use Rattle.sqlite.specs.declared.error.Error.TheVariants.{SqliteFailure}
use Rattle.sqlite.specs.declared.error.ErrorCode.TheVariants.{OutOfMemory}
use Rattle.round_files.specs.Rounds.{IsSolved, IsChecked, IsPublished}
use Rattle.round_files.specs.Public.{IsCheckedOwn}
use Rattle.office_model.specs.declared.refusal.Refusal.TheVariants as no
use Rattle.args.proofs.OnWords.{solves_round}
use Rattle.args.specs.declared.line.Line.{Line}
use Rattle.args.specs.declared.line.Line.TheVariants as line
use Rattle.cli.specs.declared.tasks.Task.TheVariants as task
use Rattle.args.specs.declared.line.LineFault.TheVariants.{Memory}
use Rattle.cli.specs.Outcomes.{MayComeOf}
use Rattle.cli.specs.Solving.{SolvesIn, solve_words}
use Rattle.cli.proofs.Imports.{imports_file}
use Rattle.cli.proofs.Opened.{may_do}
use Rattle.cli.proofs.Writers.{of_any, prints_more}

-- the refusal of a file that cannot be opened
refused_open : (error : Error) (r : Refusal) → IsRefusalOf error r → (r ≡ no.Memory) ⊎ (r ≡ no.Storage)
refused_open (SqliteFailure OutOfMemory) r is = inl (is.0 refl)
refused_open _ r is = inr (is.1 (λ e. cc))

-- a file that cannot be opened is an outcome of its task
unopened : (done : Task) (r : Refusal) → (r ≡ no.Memory) ⊎ (r ≡ no.Storage) → MayDo done (refused r)
unopened done r (inl memory) = inl (inl (ap refused memory))
unopened done r (inr storage) = inl (inr (inl (ap refused storage)))

-- what is printed of a database is printed of one that may be new
may_be : (name : List ℕ) (IsNew : Type 0) (done : Task) (Is : Outcome → Type 0) → ((o : Outcome) → Is o → MayDo done o) → (o : Outcome) → OfDatabase name IsNew Is o → MayDoAt name done o
may_be name IsNew done Is may o (inl is) = inl (is.1, may is.1 is.2, is.3)
may_be name IsNew done Is may o (inr is) = inr (may o is.1)

module _ {D : Type 0} {g : Ghosts D} {O E : Type 0} (world : WorldState) (a b : List ℕ) where
  -- what was done at a file with a name was done at one with the same name
  pub done_named : (done : Task) (came : Came D g) (old new : Both O E) (status : Status) → a ≡ b → DoneAt world a done came old new status → DoneAt world b done came old new status
  done_named done came old new status same at = subst (λ (name : List ℕ). DoneAt world name done came old new status) same at

  pub asked_named : (made : Result Request Refusal) (came : Came D g) (old new : Both O E) (status : Status) → a ≡ b → AskedAt world a made came old new status → AskedAt world b made came old new status
  asked_named made came old new status same at = subst (λ (name : List ℕ). AskedAt world name made came old new status) same at

-- what was done with a file with a name was done with one with the same name
pub file_named : {O E : Type 0} (world : WorldState) (a b : List ℕ) (Is : List ℕ → Result (String Global) Trouble → Type 0) (old new : Both O E) (status : Status) → a ≡ b
    → Prints (OnFile (world.holds a) Is) old new status → Prints (OnFile (world.holds b) Is) old new status
file_named world a b Is old new status same printed = subst (λ (name : List ℕ). Prints (OnFile (world.holds name) Is) old new status) same printed

module _ {D : Type 0} {g : Ghosts D} {O E : Type 0} (world : WorldState) where
  done_comes : (name : List ℕ) (done : Task) (came : Came D g) (old new : Both O E) (status : Status) → DoneAt world name done came old new status → Prints (MayDoAt name done) old new status
  done_comes name done (Some came) old new status at =
      prints_more _ (MayDoAt name done) (may_be name _ done _ (λ o is. may_do over_files world.ports done at.first at.last o is)) _ _ _ at.printed
  done_comes name done None old new status at = prints_more (IsUnfound world name) (MayDoAt name done) (λ o is. inr (subst (MayDo done) (sym is.4) (unopened done is.2 (refused_open is.0 is.2 is.3)))) _ _ _ at

  asked_comes : (name : List ℕ) (made : Result Request Refusal) (came : Came D g) (old new : Both O E) (status : Status) → AskedAt world name made came old new status
      → Prints (λ o. MatchResult made (λ asked. MayDoAt name (task.Ask asked) o) (λ refusal. o ≡ refused refusal)) old new status
  asked_comes name (Ok asked) came old new status at = done_comes name (task.Ask asked) came old new status at
  asked_comes name (Err refusal) came old new status at = at.1

  line_comes : (l : Line) (came : Came D g) (old new : Both O E) (status : Status) → LineAt world l came old new status → Prints (MayCome l) old new status
  line_comes (line.Import database kind id file) came old new status at =
      prints_more _ (ImportsFile (string_bytes database) (string_bytes id) kind) (λ o is. imports_file (world.holds (string_bytes file)) (string_bytes database) (string_bytes id) kind at.0 o at.1 is) _ _ _ (asked_comes (string_bytes database) at.0 came old new status at.2)
  line_comes (line.Solve file) came old new status at = prints_more _ (OnFile (λ _. ⊤) IsSolved) (λ o is. of_any (world.holds (string_bytes file)) IsSolved o is) _ _ _ at.1
  line_comes (line.Check file) came old new status at = prints_more _ (OnFile (λ _. ⊤) IsChecked) (λ o is. of_any (world.holds (string_bytes file)) IsChecked o is) _ _ _ at.1
  line_comes (line.Publish file) came old new status at = prints_more _ (OnFile (λ _. ⊤) IsPublished) (λ o is. of_any (world.holds (string_bytes file)) IsPublished o is) _ _ _ at.1
  line_comes (line.CheckOwn file own) came old new status at = prints_more _ (OnFile (λ _. ⊤) (λ text. IsCheckedOwn text (string_bytes own))) (λ o is. of_any (world.holds (string_bytes file)) (λ text. IsCheckedOwn text (string_bytes own)) o is) _ _ _ at.1
  line_comes _ came old new status at = done_comes _ _ came old new status at

  command_comes : (words : List (List ℕ)) (command : Result Line LineFault) (came : Came D g) (old new : Both O E) (status : Status) → IsAnswer words command
      → CommandAt world command came old new status → Prints (ComesTo words) old new status
  command_comes words (Ok l) came old new status is at = prints_more (MayCome l) (ComesTo words) (λ o may. (Ok l, is, may)) _ _ _ (line_comes l came old new status at)
  command_comes words (Err fault) came old new status is at = prints_more _ (ComesTo words) (λ o printed. (Err fault, is, printed)) _ _ _ at.1

  pub words_come : (words : List (List ℕ)) (came : Came D g) (old new : Both O E) (status : Status) → WordsAt world words came old new status → Prints (ComesTo words) old new status
  words_come words came old new status at = command_comes words at.0 came old new status at.1 at.2

  solve_at : (command : Result Line LineFault) → MatchResult command (λ l. (file : String Global) × (l ≡ line.Solve file) × (string_bytes file ≡ codes "round.txt")) (λ fault. fault ≡ Memory)
      → (came : Came D g) (old new : Both O E) (status : Status) → CommandAt world command came old new status → (came ≡ None) × Prints (SolvesIn world.holds) old new status
  solve_at (Ok l) is came old new status at =
      let solved : LineAt world (line.Solve is.0) came old new status = subst (λ (l : Line). LineAt world l came old new status) is.1 at in (
        solved.0,
        prints_more (OnFile (world.holds (string_bytes is.0)) IsSolved) (SolvesIn world.holds) (λ o on. inr (subst (λ (name : List ℕ). OnFile (world.holds name) IsSolved o) is.2 on)) _ _ _ solved.1,
      )
  solve_at (Err fault) is came old new status at = (at.0, prints_more (MayComeOf (Err fault)) (SolvesIn world.holds) (λ o printed. inl (subst (λ (f : LineFault). MayComeOf (Err f) o) is printed)) _ _ _ at.1)

  -- what comes of the words that solve a round file comes of that file
  pub solve_comes : (came : Came D g) (old new : Both O E) (status : Status) → WordsAt world solve_words came old new status → (came ≡ None) × Prints (SolvesIn world.holds) old new status
  solve_comes came old new status at = solve_at at.0 (solves_round at.0 at.1) came old new status at.2
