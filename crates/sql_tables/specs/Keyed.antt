-- Rows that are distinguished by their rowids, and a table that holds them.
use Rattle.std.specs.Prelude.{◌≡◌, ◌&&◌, ◌∷◌, Bool, true, false, List, []}
use Rattle.sql_tables.specs.Common.{AllByRecursion, list_all, Row, value_cmp, AnyTable as Table, rowid, IsAscending, Database, is_int}
use Rattle.std.specs.Ordering.{is_eq, is_lt}
use Rattle.sql_tables.specs.Table.{Place, Lists, HasRows}

-- each rowid is an integer, and no two are one
pub record IsKeyed (rows : List Row) : Type 0 where
  pub ids : AllByRecursion (λ r. is_int (rowid r) ≡ true) rows
  pub apart : IsAscending (λ a b. is_eq (value_cmp (rowid a) (rowid b)) ≡ false) rows

-- the table is listed with its columns and rules, and holds these rows, each under a rowid of its own
pub record Stands (table : Place → Table) (place : Place) (rows : List Row) (db : Database) : Type 0 where
  pub listed : Lists db.schema (table place)
  pub keyed : IsKeyed (db.trees place.tree)
  pub holds : HasRows db (table place) rows

-- the first row's rowid is below that of the next one, if there is one
abbrev pub comes_first : Row → List Row → Bool
comes_first r [] = true
comes_first r (next ∷ rows) = is_lt (value_cmp (rowid r) (rowid next))

-- the rowids rise
abbrev pub rises : List Row → Bool
rises [] = true
rises (r ∷ rows) = comes_first r rows && rises rows

-- each rowid is an integer
abbrev pub have_ids : List Row → Bool
have_ids = list_all (λ r. is_int (rowid r))
