-- For proofs alone. The tables of the product, as a schema lists them, and the rows that they hold.
use Rattle.sql_tables.specs.Common.{ℕ, List, map, codes, Kind, Group, Entering, InPlace, New}
use Rattle.std.specs.Borrow.{Bor}
use Rattle.sql_tables.specs.declared.table.Shape.{Shape as Given}
use Rattle.sql_tables.specs.declared.table.DeclaredColumn.{DeclaredColumn}
use Rattle.sql_tables.specs.declared.table.Link.{Link}
use Rattle.schema.specs.declared.row.Group.TheVariants as group
use Rattle.sql_tables.specs.Table.{TableShape, Sql, sql_of}

-- what the program declares of a column
abbrev pub column_by : DeclaredColumn → List ℕ × Kind
column_by declared = (declared.0.now, declared.1)

-- of a reference
abbrev pub link_by : Link → ℕ × List ℕ × List ℕ
link_by link = (link.0, link.1.table.now, link.1.column.now)

-- of columns that no two rows share
abbrev pub places_by : Bor (List ℕ) → List ℕ
places_by places = places.now

-- of a table
abbrev pub shape_by : Given → TableShape
shape_by given = record {
  name = given.name.now;
  columns = map column_by given.columns.now;
  key = given.keys.rowid;
  primary = given.keys.primary.now;
  uniques = map places_by given.keys.uniques.now;
  links = map link_by given.links.now;
}

-- and of its statements
abbrev pub texts_by : Given → Sql
texts_by given = record { create = given.create.now; insert = given.insert.now; update = given.update.now; delete = given.delete.now; select = given.select.now }

-- the statement that brings a row into its table so
abbrev pub entering : Entering → Sql → List ℕ
entering InPlace sql = sql.update
entering New sql = sql.insert

-- the text that takes the rows of a group out of their table
abbrev pub removal : Group → List ℕ
removal (group.Key table) = (sql_of table).delete
removal group.List = codes "DELETE FROM choice12 WHERE round = ?1 AND student = ?2"
removal group.Placed = codes "DELETE FROM placement12 WHERE round = ?1"
