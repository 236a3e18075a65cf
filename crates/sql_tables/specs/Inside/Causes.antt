-- For proofs alone. Texts that a schema understands, and what a write does where it is refused.
use Rattle.std.specs.Prelude.{◌≡◌, ◌≤◌, ℕ, false, List, [], length, Option, None, Ok, Err}
use Rattle.sql_tables.specs.Common.{Error, Row, Schema, Database, Does, text_of, Enforced}
use Rattle.sqlite.specs.Calls.{IsWrite}
use Rattle.sqlite.specs.Command.{Command}
use Rattle.sqlite.specs.Listing.{understood}
use Rattle.sqlite.specs.declared.run.Mode.{Mode}
use Rattle.sqlite_resolve.specs.declared.compiled.Compiled.{Compiled}

-- under this schema the text is one statement of these parameters
pub record IsText (schema : Schema) (sql : List ℕ) (given : Row) : Type 0 where
  pub meant : Compiled
  pub is : understood schema sql ≡ Ok meant
  pub whole : length sql ≤ meant.tail
  pub counted : length given ≡ length meant.names
  pub plain : meant.formats ≡ []

-- which writes, and shows nothing
pub record IsWriteOf (schema : Schema) (sql : List ℕ) (given : Row) (k : Command) : Type 0 where
  pub text : IsText schema sql given
  pub silent : text.meant.returning ≡ None
  pub runs : text.meant.command ≡ k
  pub writes : IsWrite k

-- how a connection of ours runs a statement
abbrev pub plain_mode : Mode
plain_mode = record { keys = Enforced; in_doubt = false; may_wait = false }

-- where the text is such a write, it stops
abbrev pub IsHindered : List ℕ → Row → Option ℕ → Database → Type 0
IsHindered sql given limit db = (k : Command) (it : IsWriteOf db.schema sql given k) → (stop : Option Error) × Does limit plain_mode given db (text_of sql it.text.meant) None k (Err stop)
