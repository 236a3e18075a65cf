-- What the edits of a statement make of the rows of its table.
use Rattle.std.specs.Prelude.{◌≡◌, true}
use Rattle.sql_tables.specs.Common.{Database, Group, Table, Cells, are_of, key_in, kinds_of, Entering}
use Rattle.sql_tables.specs.Outcomes.{entry, leaving}
use Rattle.sql_tables.specs.Table.{table_at, values}
use Rattle.sql_tables.specs.Writes.{Enters, Leaves}

-- a row that came into its table so is one more there, or stands in the place of the one with its key
abbrev pub EntriesEnter : Type 0
EntriesEnter =
    (way : Entering) (table : Table) (row : Cells) (old new : Database) → are_of (kinds_of table) row ≡ true → (let it = entry way table row in it.does old new)
    → Enters way (table_at table) (values (key_in table row)) (values row) old new

-- the rows of a group that left are gone
abbrev pub LeavingsLeave : Type 0
LeavingsLeave = (group : Group) (key : Cells) (old new : Database) → (let it = leaving group key in it.does old new) → Leaves group (values key) old new
