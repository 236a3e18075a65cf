-- The tables of the product, as a schema lists them, and the rows that they hold.
use Rattle.std.specs.Prelude.{◌≡◌, if◌then◌else◌, ◌∷◌, ℕ, zero, suc, Bool, true, false, None, Some, Option, [], codes, List, map, drop, length, slice_get, pos}
use Rattle.sql_tables.specs.Common.{IsPermutation, Null, Int, Words, Bytes, Row, Binary, AnyTable, Schema, Kind, Database, Column, Reference, NoAction, table_named, Order, Table, Cells}
use Rattle.sqlite.specs.declared.types.Value.{Value}
use Rattle.sqlite.specs.Kind.TheVariants.{Integer, Text, Blob, Any}
use Rattle.sqlite.specs.Rows.{shown}
use Rattle.sqlite_sql.specs.Term.{Term, lit, col, op2}
use Rattle.sqlite_sql.specs.declared.ops.BinaryOp.TheVariants.{Compare, And, Or}
use Rattle.sqlite_sql.specs.declared.ops.CompareOp.{CompareOp}
use Rattle.sqlite_sql.specs.declared.ops.CompareOp.TheVariants.{Eq, Ge, Le}
use Rattle.sqlite_value.specs.Keys.{plain}
use Rattle.schema.specs.declared.cell.Cell.{Cell}
use Rattle.schema.specs.declared.cell.Cell.TheVariants as cell
use Rattle.schema.specs.declared.table.Table.TheVariants.{Edition, Supervisor, Project, Student, Round, OldChoice, OldPlacement, Import, RoundAim, Choice, Placement}
pub use Rattle.schema.specs.Rows.{all_tables, same_table}

-- A table as it is declared: its name and its columns; the position of the column that is the rowid, if one is; its key,
-- columns that no two rows share, and references, all by columns counted from 1, with 0 for the rowid.
pub record TableShape : Type 0 where
  pub name : List ℕ
  pub columns : List (List ℕ × Kind)
  pub key : Option ℕ
  pub primary : List ℕ
  pub uniques : List (List ℕ)
  pub links : List (ℕ × List ℕ × List ℕ)

-- the texts of its statements
pub record Sql : Type 0 where
  pub create : List ℕ
  pub insert : List ℕ
  pub update : List ℕ
  pub delete : List ℕ
  pub select : List ℕ

-- a table whose key is its first column, a text
abbrev pub by_text : List ℕ → List (List ℕ × Kind) → List (ℕ × List ℕ × List ℕ) → TableShape
by_text name columns links = record { name = name; columns = columns; key = None; primary = 1 ∷ []; uniques = (1 ∷ []) ∷ []; links = links }

-- one whose key is its first column, a number: the rowid
abbrev pub by_rowid : List ℕ → List (List ℕ × Kind) → List (ℕ × List ℕ × List ℕ) → TableShape
by_rowid name columns links = record { name = name; columns = columns; key = Some 0; primary = 0 ∷ []; uniques = []; links = links }

-- a table of choices: its key is a round, a student and a place
abbrev pub choices : List ℕ → TableShape
choices name = record {
  name = name;
  columns = (codes "round", Integer) ∷ (codes "student", Text) ∷ (codes "place", Integer) ∷ (codes "project", Text) ∷ [];
  key = None;
  primary = 1 ∷ 2 ∷ 3 ∷ [];
  uniques = (1 ∷ 2 ∷ 3 ∷ []) ∷ (1 ∷ 2 ∷ 4 ∷ []) ∷ [];
  links = (1, codes "round", codes "number") ∷ (2, codes "student", codes "code") ∷ (4, codes "project", codes "code") ∷ [];
}

-- a table of placements
abbrev pub placements : List ℕ → TableShape
placements name = by_text name ((codes "student", Text) ∷ (codes "round", Integer) ∷ (codes "project", Text) ∷ (codes "rank", Integer) ∷ []) ((1, codes "student", codes "code") ∷ (2, codes "round", codes "number") ∷ (3, codes "project", codes "code") ∷ [])

-- the column at a place is compared with this value
abbrev pub against : CompareOp → ℕ → Value → Term
against op place value = op2 (Compare op Binary) (col 1 place) (lit value)

-- it lies between two numbers
abbrev pub between : ℕ → ℕ → ℕ → Term
between place low high = op2 And (against Ge place (Int (pos low))) (against Le place (Int (pos high)))

-- what is declared of each table, which the code has in the same words (`src/table.rt`): its shape
abbrev pub shape_of : Table → TableShape
shape_of Edition = by_rowid (codes "edition") ((codes "id", Integer) ∷ (codes "number", Integer) ∷ []) []
shape_of Supervisor = by_text (codes "supervisor") ((codes "code", Text) ∷ (codes "label", Text) ∷ (codes "quota", Integer) ∷ []) []
shape_of Project = by_text (codes "project") ((codes "code", Text) ∷ (codes "label", Text) ∷ (codes "supervisor", Text) ∷ (codes "quota", Integer) ∷ []) ((3, codes "supervisor", codes "code") ∷ [])
shape_of Student = by_text (codes "student") ((codes "code", Text) ∷ (codes "label", Text) ∷ []) []
shape_of Round = by_rowid (codes "round") ((codes "number", Integer) ∷ (codes "open", Integer) ∷ []) []
shape_of OldChoice = choices (codes "choice")
shape_of OldPlacement = placements (codes "placement")
shape_of Import = by_text (codes "import") ((codes "id", Text) ∷ (codes "kind", Text) ∷ (codes "bytes", Blob) ∷ (codes "rows", Integer) ∷ []) []
shape_of RoundAim = by_rowid (codes "round_aim") ((codes "round", Integer) ∷ (codes "generous", Integer) ∷ []) ((0, codes "round", codes "number") ∷ [])
shape_of Choice = choices (codes "choice12")
shape_of Placement = placements (codes "placement12")

-- the texts of its statements
abbrev pub sql_of : Table → Sql
sql_of Edition = record {
  create = codes "CREATE TABLE edition (id INTEGER NOT NULL PRIMARY KEY CHECK (id = 1), number INTEGER NOT NULL) STRICT";
  insert = codes "INSERT INTO edition (id, number) VALUES (?1, ?2)";
  update = codes "UPDATE edition SET number = ?2 WHERE id = ?1";
  delete = codes "DELETE FROM edition WHERE id = ?1";
  select = codes "SELECT rowid, * FROM edition";
}
sql_of Supervisor = record {
  create = codes "CREATE TABLE supervisor (code TEXT NOT NULL PRIMARY KEY, label TEXT NOT NULL, quota INTEGER NOT NULL CHECK (quota BETWEEN 0 AND 500)) STRICT";
  insert = codes "INSERT INTO supervisor (code, label, quota) VALUES (?1, ?2, ?3)";
  update = codes "UPDATE supervisor SET code = ?1, label = ?2, quota = ?3 WHERE code = ?1";
  delete = codes "DELETE FROM supervisor WHERE code = ?1";
  select = codes "SELECT rowid, * FROM supervisor";
}
sql_of Project = record {
  create = codes "CREATE TABLE project (code TEXT NOT NULL PRIMARY KEY, label TEXT NOT NULL, supervisor TEXT NOT NULL REFERENCES supervisor (code), quota INTEGER NOT NULL CHECK (quota BETWEEN 0 AND 500)) STRICT";
  insert = codes "INSERT INTO project (code, label, supervisor, quota) VALUES (?1, ?2, ?3, ?4)";
  update = codes "UPDATE project SET code = ?1, label = ?2, supervisor = ?3, quota = ?4 WHERE code = ?1";
  delete = codes "DELETE FROM project WHERE code = ?1";
  select = codes "SELECT rowid, * FROM project";
}
sql_of Student = record {
  create = codes "CREATE TABLE student (code TEXT NOT NULL PRIMARY KEY, label TEXT NOT NULL) STRICT";
  insert = codes "INSERT INTO student (code, label) VALUES (?1, ?2)";
  update = codes "UPDATE student SET code = ?1, label = ?2 WHERE code = ?1";
  delete = codes "DELETE FROM student WHERE code = ?1";
  select = codes "SELECT rowid, * FROM student";
}
sql_of Round = record {
  create = codes "CREATE TABLE round (number INTEGER NOT NULL PRIMARY KEY, open INTEGER NOT NULL CHECK (open IN (0, 1))) STRICT";
  insert = codes "INSERT INTO round (number, open) VALUES (?1, ?2)";
  update = codes "UPDATE round SET open = ?2 WHERE number = ?1";
  delete = codes "DELETE FROM round WHERE number = ?1";
  select = codes "SELECT rowid, * FROM round";
}
sql_of OldChoice = record {
  create = codes "CREATE TABLE choice (round INTEGER NOT NULL REFERENCES round (number), student TEXT NOT NULL REFERENCES student (code), place INTEGER NOT NULL CHECK (place BETWEEN 1 AND 8), project TEXT NOT NULL REFERENCES project (code), PRIMARY KEY (round, student, place), UNIQUE (round, student, project)) STRICT";
  insert = codes "INSERT INTO choice (round, student, place, project) VALUES (?1, ?2, ?3, ?4)";
  update = codes "UPDATE choice SET round = ?1, student = ?2, place = ?3, project = ?4 WHERE round = ?1 AND student = ?2 AND place = ?3";
  delete = codes "DELETE FROM choice WHERE round = ?1 AND student = ?2 AND place = ?3";
  select = codes "SELECT rowid, * FROM choice";
}
sql_of OldPlacement = record {
  create = codes "CREATE TABLE placement (student TEXT NOT NULL PRIMARY KEY REFERENCES student (code), round INTEGER NOT NULL REFERENCES round (number), project TEXT NOT NULL REFERENCES project (code), rank INTEGER NOT NULL CHECK (rank BETWEEN 1 AND 8)) STRICT";
  insert = codes "INSERT INTO placement (student, round, project, rank) VALUES (?1, ?2, ?3, ?4)";
  update = codes "UPDATE placement SET student = ?1, round = ?2, project = ?3, rank = ?4 WHERE student = ?1";
  delete = codes "DELETE FROM placement WHERE student = ?1";
  select = codes "SELECT rowid, * FROM placement";
}
sql_of Import = record {
  create = codes "CREATE TABLE import (id TEXT NOT NULL PRIMARY KEY, kind TEXT NOT NULL CHECK (kind IN ('supervisors', 'projects', 'students', 'lists')), bytes BLOB NOT NULL, rows INTEGER NOT NULL) STRICT";
  insert = codes "INSERT INTO import (id, kind, bytes, rows) VALUES (?1, ?2, ?3, ?4)";
  update = codes "UPDATE import SET id = ?1, kind = ?2, bytes = ?3, rows = ?4 WHERE id = ?1";
  delete = codes "DELETE FROM import WHERE id = ?1";
  select = codes "SELECT rowid, * FROM import";
}
sql_of RoundAim = record {
  create = codes "CREATE TABLE round_aim (round INTEGER NOT NULL PRIMARY KEY REFERENCES round (number), generous INTEGER NOT NULL CHECK (generous IN (0, 1))) STRICT";
  insert = codes "INSERT INTO round_aim (round, generous) VALUES (?1, ?2)";
  update = codes "UPDATE round_aim SET generous = ?2 WHERE round = ?1";
  delete = codes "DELETE FROM round_aim WHERE round = ?1";
  select = codes "SELECT rowid, * FROM round_aim";
}
sql_of Choice = record {
  create = codes "CREATE TABLE choice12 (round INTEGER NOT NULL REFERENCES round (number), student TEXT NOT NULL REFERENCES student (code), place INTEGER NOT NULL CHECK (place BETWEEN 1 AND 12), project TEXT NOT NULL REFERENCES project (code), PRIMARY KEY (round, student, place), UNIQUE (round, student, project)) STRICT";
  insert = codes "INSERT INTO choice12 (round, student, place, project) VALUES (?1, ?2, ?3, ?4)";
  update = codes "UPDATE choice12 SET round = ?1, student = ?2, place = ?3, project = ?4 WHERE round = ?1 AND student = ?2 AND place = ?3";
  delete = codes "DELETE FROM choice12 WHERE round = ?1 AND student = ?2 AND place = ?3";
  select = codes "SELECT rowid, * FROM choice12";
}
sql_of Placement = record {
  create = codes "CREATE TABLE placement12 (student TEXT NOT NULL PRIMARY KEY REFERENCES student (code), round INTEGER NOT NULL REFERENCES round (number), project TEXT NOT NULL REFERENCES project (code), rank INTEGER NOT NULL CHECK (rank BETWEEN 1 AND 12)) STRICT";
  insert = codes "INSERT INTO placement12 (student, round, project, rank) VALUES (?1, ?2, ?3, ?4)";
  update = codes "UPDATE placement12 SET student = ?1, round = ?2, project = ?3, rank = ?4 WHERE student = ?1";
  delete = codes "DELETE FROM placement12 WHERE student = ?1";
  select = codes "SELECT rowid, * FROM placement12";
}

-- and the CHECK rules that it is made with
abbrev pub checks_of : Table → List Term
checks_of Edition = against Eq 0 (Int (pos 1)) ∷ []
checks_of Supervisor = between 3 0 500 ∷ []
checks_of Project = between 4 0 500 ∷ []
checks_of Student = []
checks_of Round = op2 Or (against Eq 2 (Int (pos 0))) (against Eq 2 (Int (pos 1))) ∷ []
checks_of OldChoice = between 3 1 8 ∷ []
checks_of OldPlacement = between 4 1 8 ∷ []
checks_of Import = op2 Or (op2 Or (against Eq 2 (Words (codes "supervisors"))) (against Eq 2 (Words (codes "projects")))) (op2 Or (against Eq 2 (Words (codes "students"))) (against Eq 2 (Words (codes "lists")))) ∷ []
checks_of RoundAim = op2 Or (against Eq 2 (Int (pos 0))) (against Eq 2 (Int (pos 1))) ∷ []
checks_of Choice = between 3 1 12 ∷ []
checks_of Placement = between 4 1 12 ∷ []

-- What may differ from one database to another besides the table's tree: whether it is STRICT; which of its references, in order, name no
-- column of the other table, so that its key is meant, where those beyond the list name theirs; and its CHECK rules, which are taken as
-- they were made.
pub record Rules : Type 0 where
  pub is_strict : Bool
  pub bare : List Bool
  pub checks : List Term

-- where a table stands, and by which rules
pub record Place : Type 0 where
  pub tree : ℕ
  pub rules : Rules

-- the rules of a table that is made here: it is STRICT, and each reference names its column
abbrev pub rules_of : Table → Rules
rules_of table = record { is_strict = true; bare = []; checks = checks_of table }

-- the kind of a column that is declared to have this one: BLOB is a kind in a STRICT table alone, and else converts nothing
abbrev pub kind_in : Kind → Bool → Kind
kind_in Blob is_strict = if is_strict then Blob else Any
kind_in kind is_strict = kind

-- a column of a table that is STRICT or not, which is NOT NULL and has no default
abbrev pub required : Bool → List ℕ × Kind → Column
required is_strict declared = record { name = declared.0; kind = kind_in declared.1 is_strict; is_strict = is_strict; not_null = true; default = Null; collation = Binary }

-- a reference from this column to a column of another table, with NO ACTION; a bare one does not name that column
abbrev pub referring : Bool → ℕ × List ℕ × List ℕ → Reference
referring is_bare link =
    record { columns = link.0 ∷ []; parent = link.1; parent_columns = if is_bare then [] else link.2 ∷ []; on_delete = NoAction; on_update = NoAction; is_deferred = false }

-- references, each bare or not as the list says, and those beyond it not
abbrev pub all_referring : List Bool → List (ℕ × List ℕ × List ℕ) → List Reference
all_referring bare [] = []
all_referring [] (link ∷ links) = referring false link ∷ all_referring [] links
all_referring (is_bare ∷ bare) (link ∷ links) = referring is_bare link ∷ all_referring bare links

-- this many ascending orders
abbrev pub ascending : ℕ → List Order
ascending zero = []
ascending (suc count) = plain ∷ ascending count

-- the table of this shape, as a schema lists it
abbrev pub made_at : TableShape → Place → AnyTable
made_at shape place = record {
  name = shape.name;
  tree = place.tree;
  columns = map (required place.rules.is_strict) shape.columns;
  key = shape.key;
  primary = shape.primary;
  uniques = shape.uniques;
  orders = ascending (length shape.uniques);
  checks = place.rules.checks;
  references = all_referring place.rules.bare shape.links;
  computed = [];
  stamps = record { places = []; terms = []; formats = [] };
  is_counted = false;
}

-- a table of the product, as a schema lists it
abbrev pub table_at : Table → Place → AnyTable
table_at table = made_at (shape_of table)

-- the same, as it is made here, at this tree
abbrev pub made_here : Table → ℕ → AnyTable
made_here table tree = table_at table (record { tree = tree; rules = rules_of table })

-- the schema's first table of this name is this one
pub record Lists (schema : Schema) (table : AnyTable) : Type 0 where
  pub at : ℕ
  pub named : table_named schema table.name ≡ Some at
  pub there : slice_get schema.tables at ≡ Some table

-- a row as it is stored: with the rowid first, which is new, or is the first column, whose own place has NULL
abbrev pub laid_out : {X : Type 0} → X → Option ℕ → List X → List X
laid_out null None given = null ∷ given
laid_out null (Some key) (first ∷ given) = first ∷ null ∷ given
laid_out null (Some key) [] = []

-- the columns of a row, as a query shows them
abbrev pub cells : AnyTable → Row → Row
cells table row = drop 1 (shown table row)

-- the table holds these rows, in whatever order
abbrev pub HasRows : Database → AnyTable → List Row → Type 0
HasRows db table rows = IsPermutation rows (map (cells table) (db.trees table.tree))

-- the value of a cell
abbrev pub value_of : Cell → Value
value_of (cell.Text text) = Words text
value_of (cell.Number n) = Int (pos n)
value_of (cell.Bytes bytes) = Bytes bytes

-- the columns of a row
abbrev pub values : Cells → Row
values row = map value_of row
