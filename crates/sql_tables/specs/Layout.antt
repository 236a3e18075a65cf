-- Whether a table has the columns and the keys of one that is made here, and its references: it may stand in another tree, with other
-- CHECK rules, without STRICT, and with references that name no column.
use Rattle.std.specs.Prelude.{◌||◌, ℕ, Bool, false, List, is_some}
use Rattle.sql_tables.specs.Common.{list_any, option_map_or, same_name, table_named, AnyTable, Schema}
use Rattle.sqlite_schema.specs.declared.schema.View.{View}
use Rattle.sql_tables.specs.Table.{Place, Rules, Lists}

-- the table is listed at this tree
abbrev pub IsListed : (Place → AnyTable) → Schema → ℕ → Type 0
IsListed table schema tree = (rules : Rules) × Lists schema (table (record { tree = tree; rules = rules }))

-- the table is listed at no tree
abbrev pub IsUnlisted : (Place → AnyTable) → Schema → Type 0
IsUnlisted table schema = (place : Place) → Lists schema (table place) → ⊥

-- of the table of this name, a table, an index or a trigger that the database keeps as it is: no statement here reaches its rows
abbrev pub is_kept_of : List ℕ → View → Bool
is_kept_of name view = option_map_or (λ table. same_name table name) view.foreign false

-- a table has this name, be it one that is kept as it is
abbrev pub is_there : Schema → List ℕ → Bool
is_there schema name = is_some (table_named schema name) || list_any (is_kept_of name) schema.views
