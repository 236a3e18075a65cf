-- The rows of the tables as SQL has them.
use Rattle.store.specs.Common.{List, drop, Has, Table}
pub use Rattle.schema.specs.Rows.{all_tables}
pub use Rattle.sql_tables.specs.Table.{value_of, values}

-- those that hold rows of an office, all but the edition; each comes after those that it refers to
abbrev pub rolls : List Table
rolls = drop 1 all_tables

-- the table is one of these
unfoldable pub IsAmong : List Table → Table → Type 0
IsAmong tables table = Has tables table

-- the table is one of those that hold rows of an office
abbrev pub IsRollTable : Table → Type 0
IsRollTable = IsAmong rolls
