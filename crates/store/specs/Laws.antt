-- What the trees of a database say of the office that its tables stand for, and what tables that are made here take.
use Rattle.std.specs.Prelude.{◌≡◌, ℕ, List, [], None}
use Rattle.sql_tables.specs.Ours.{HasRoom, IsOurs}
use Rattle.store.specs.Common.{Database, IsDatabase, Schema, State, IsFit, Edition, Change, AllRows, AreFresh}
use Rattle.store.specs.Available.{AreFew, AreReady}
use Rattle.store.specs.Causes.{IsHinderedAmong, IsHinderedOpening}
use Rattle.store.specs.Tables.{Opens, StandsFor, StandsIn, TablesHold}

-- A database whose tables stand for an office in some edition, opened from its trees alone, is opened as that office.
abbrev pub OpensAgain : Type 0
OpensAgain = (e : Edition) (db found opened : Database) (office again : State) → IsDatabase db → IsDatabase found → found.trees ≡ db.trees → StandsIn e db office → IsFit office → IsFit again → Opens found opened again → again ≡ office

-- where they are allowed and each row that they add is new, no change is refused by such tables
abbrev pub TakesChanges : Type 0
TakesChanges = (changes : List Change) (rows : AllRows) (db : Database) → IsDatabase db → AreReady db → TablesHold db rows → AreFew changes rows → AreFresh changes rows → IsHinderedAmong changes None db → ⊥

-- a schema in which nothing was made
abbrev pub nothing_made : Schema
nothing_made = record { tables = []; indexes = []; views = [] }

-- no statement of an opening is refused by a database in which nothing was made
abbrev pub TakesTables : Type 0
TakesTables = (db : Database) → IsDatabase db → db.schema ≡ nothing_made → IsHinderedOpening None db → ⊥

-- A database that is found with the trees of one as it is made here is as made here too, with as many rowids left, and holds the same rows.
abbrev pub FindsOurs : Type 0
FindsOurs = (db found : Database) → IsDatabase db → IsDatabase found → found.trees ≡ db.trees → IsOurs db
    → IsOurs found × ((count : ℕ) → HasRoom count db → HasRoom count found) × ((rows : AllRows) → TablesHold db rows → TablesHold found rows)

-- opening such tables is hindered by no statement, and changes nothing
abbrev pub OpensOurs : Type 0
OpensOurs = (db : Database) (office : State) → IsDatabase db → IsOurs db → StandsFor db office
    → (IsHinderedOpening None db → ⊥) × ((opened : Database) (again : State) → Opens db opened again → opened ≡ db)
