-- What comes of a stream that is served at the office of a database file, by the bytes of both.
use Rattle.std.specs.Prelude.{◌≡◌, ◌⊎◌, ◌∷◌, ℕ, List, [], length, take}
use Rattle.sqlite_trees.specs.Tree.{Trees}
use Rattle.sqlite_wal.specs.Recovery.{Image}
use Rattle.sqlite.specs.Effect.{Database, IsDatabase}
use Rattle.sqlite.specs.Files.{AreFoundIn, HoldsDatabase}
use Rattle.office_model.specs.State.{State, empty}
use Rattle.office_model.specs.Fit.{IsFit}
use Rattle.store.specs.declared.edition.Edition.{Edition}
use Rattle.store.specs.Reading.{IsDamaged}
use Rattle.store.specs.Tables.{HasNone, StandsFor, StandsIn}
use Rattle.http_stream.specs.declared.outcome.End.{End}
use Rattle.http_stream.specs.Served.{Serves}
use Rattle.web.specs.Serving.{AnswersMessage, AtDesk, end_text, just_opened}

-- a database file, with no log next to it
abbrev pub alone : List ℕ → Image
alone file = record { log = []; db = file }

-- the database that is found in a file: the one that it holds, or an empty one where the file is new
pub record IsFoundIn (file : List ℕ) (db : Database) : Type 0 where
  pub sound : IsDatabase db
  pub found : AreFoundIn (alone file) db.trees
  pub only : (trees : Trees) → HoldsDatabase (alone file) trees → db.trees ≡ trees

-- the office that is opened of a database: the empty one where none of the tables is there, else that for which they stand in some edition
abbrev pub IsOfficeOf : Database → State → Type 0
IsOfficeOf db office = (HasNone db.schema × (office ≡ empty)) ⊎ ((e : Edition) × StandsIn e db office)

-- The stream was served at the office of the file. The answers are those of a run of the office over the messages of the stream, and the
-- refusal that ends it. The file that is left holds a database whose tables stand for the office after them.
pub record IsServedOver (file stream answers left : List ℕ) : Type 0 where
  pub found : Database
  pub in_file : IsFoundIn file found
  pub office : State
  pub of_file : IsOfficeOf found office
  pub fit : IsFit office
  pub count : ℕ
  pub end : End
  pub next : AtDesk
  pub answered : Serves AnswersMessage end_text (just_opened office) stream answers count end next
  pub kept : Database
  pub in_left : ∥ HoldsDatabase (alone left) kept.trees ∥₁
  pub stands : StandsFor kept next.office

-- some of the tables are in the file, and they are those of no office
abbrev pub IsDamagedFile : List ℕ → Type 0
IsDamagedFile file = (db : Database) × IsFoundIn file db × IsDamaged db × (HasNone db.schema → ⊥)

-- the answers and the file stand at the start of their rooms, and these are their lengths
pub record ArePut (answers left room_of_answers room_of_left lengths : List ℕ) : Type 0 where
  pub answers_are : take (length answers) room_of_answers ≡ answers
  pub left_is : take (length left) room_of_left ≡ left
  pub lengths_are : lengths ≡ length answers ∷ length left ∷ []
