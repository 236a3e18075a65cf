-- Tables that take each valid change.
use Rattle.std.specs.Prelude.{◌≡◌, ◌+◌, ◌≤◌, ◌^◌, ℕ, List, false, length}
use Rattle.store.specs.Common.{AnyTable, Database, IsDatabase, Change, AllRows}
use Rattle.std.specs.List.{list_any}
use Rattle.office.specs.changes.Allowed.{AreAllowed}
use Rattle.sql_tables.specs.Ours.{HasRoom, IsOurs}
use Rattle.store.specs.Tables.{TablesHold}

-- tables as they are made here, with rowids left for the rows of any request
abbrev pub AreReady : Database → Type 0
AreReady db = IsOurs db × HasRoom (2 ^ 20) db

-- changes that the tables take, of which there are no more than a request makes
abbrev pub AreFew : List Change → AllRows → Type 0
AreFew changes rows = AreAllowed changes rows × (length changes ≤ 2 ^ 20)

-- of the rowids that were left no more than this many are taken
abbrev pub LeavesRoom : ℕ → Database → Database → Type 0
LeavesRoom taken old new = (count : ℕ) → taken + count ≤ 2 ^ 62 → HasRoom (taken + count) old → HasRoom count new

-- Tables that hold rows, and are as they are made here, are so still after these changes. Where they take them, each takes a rowid at most.
unfoldable pub StaysOurs : List Change → Database → Database → Type 0
StaysOurs changes old new = (rows : AllRows) → IsDatabase old → IsOurs old → TablesHold old rows → IsOurs new × (AreAllowed changes rows → LeavesRoom (length changes) old new)

-- so is a database in which no table counts its rowids, where tables are made or migrated
abbrev pub KeepsOurs : Database → Database → Type 0
KeepsOurs old new = IsDatabase old → IsOurs old → list_any (λ (t : AnyTable). t.is_counted) old.schema.tables ≡ false → IsOurs new

-- and where they are made, one rowid is taken, of the row of their edition
abbrev pub KeepsRoom : Database → Database → Type 0
KeepsRoom old new = IsDatabase old → IsOurs old → list_any (λ (t : AnyTable). t.is_counted) old.schema.tables ≡ false → LeavesRoom 1 old new
