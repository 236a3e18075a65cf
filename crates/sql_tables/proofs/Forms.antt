-- The texts of a table as statements, and what they are resolved to, by the table's shape alone.
use Rattle.sql_tables.proofs.Common.{Null, Integer, Term, lit, col, op1, Parsed, TableBody, Statement, Rows, Expr, Core, roll-Core, Select, roll-Select, Output, TableShape, laid_out, ℕ, zero, suc, ◌-◌, Bool, if◌then◌else◌, List, [], ◌∷◌, codes, length, map, take, drop, Option, Some, None, false, true}
use Rattle.sqlite.specs.Kind.{Kind}
use Rattle.sqlite_sql.specs.declared.ops.UnaryOp.TheVariants.{ToNumeric}
use Rattle.sqlite_ast.specs.declared.CreateTable.{CreateTable}
use Rattle.sqlite_ast.specs.declared.Statement.TheVariants as written
use Rattle.sqlite_ast.specs.declared.Conflict.TheVariants as conflict
use Rattle.sqlite_ast.specs.declared.Rows.TheVariants as rows
use Rattle.sqlite_ast.specs.declared.Expr.TheVariants as expr
use Rattle.sqlite_ast.specs.declared.Binary.TheVariants as binary
use Rattle.sqlite_ast.specs.declared.Shown.TheVariants as shown
use Rattle.sqlite_ast.specs.declared.Origin.TheVariants as origin
use Rattle.sqlite_ast.specs.declared.Source.{roll-Source}
use Rattle.sql_tables.proofs.KeyTests.{equals, is_parameter}
use Rattle.sql_tables.proofs.SelectAll.{id_out, key_out, column_out}

-- a text that was read to its end, and has this many parameters, eight at most
abbrev pub read_as : List ℕ → Statement → ℕ → Parsed
read_as sql statement count = record {
  statement = statement;
  names = take count (codes "?1" ∷ codes "?2" ∷ codes "?3" ∷ codes "?4" ∷ codes "?5" ∷ codes "?6" ∷ codes "?7" ∷ codes "?8" ∷ []);
  formats = [];
  start = 0;
  end = length sql;
  tail = length sql;
}

-- the parameters from one on, and their terms
abbrev pub parameters : ℕ → ℕ → List Expr
parameters at zero = []
parameters at (suc count) = expr.Parameter at ∷ parameters (suc at) count

abbrev pub given_terms : ℕ → ℕ → List Term
given_terms at zero = []
given_terms at (suc count) = col 0 at ∷ given_terms (suc at) count

-- each column is set to its parameter
abbrev pub sets_from : ℕ → List (List ℕ) → List (List ℕ × Expr)
sets_from at [] = []
sets_from at (name ∷ names) = (name, expr.Parameter at) ∷ sets_from (suc at) names

-- these columns are the parameters, as it is written
abbrev pub and_tests : Expr → ℕ → List (List ℕ) → Expr
and_tests test at [] = test
and_tests test at (name ∷ names) = and_tests (expr.Binary binary.And test (is_parameter name at)) (suc at) names

abbrev pub tests_of : List (List ℕ) → Expr
tests_of [] = expr.Null
tests_of (name ∷ names) = and_tests (is_parameter name 1) 2 names

-- a parameter next to a column of this kind: where a table is not STRICT, a number may be given as a text
abbrev pub given_in : Kind → Bool → ℕ → Term
given_in Integer is_strict at = if is_strict then col 0 at else op1 ToNumeric (col 0 at)
given_in kind is_strict at = col 0 at

-- next to the column at this place of a row, of which the first is the rowid
abbrev pub given_at : List (List ℕ × Kind) → Bool → ℕ → ℕ → Term
given_at columns is_strict zero at = col 0 at
given_at [] is_strict (suc place) at = col 0 at
given_at (declared ∷ columns) is_strict (suc zero) at = given_in declared.1 is_strict at
given_at (declared ∷ columns) is_strict (suc (suc place)) at = given_at columns is_strict (suc place) at

-- and as it is resolved, in a table that is STRICT or not
abbrev pub equals_from : List (List ℕ × Kind) → Bool → ℕ → List ℕ → List Term
equals_from columns is_strict at [] = []
equals_from columns is_strict at (place ∷ places) = equals place (given_at columns is_strict place at) ∷ equals_from columns is_strict (suc at) places

-- this many numbers from one on
abbrev counted : ℕ → ℕ → List ℕ
counted from zero = []
counted from (suc count) = from ∷ counted (suc from) count

-- the columns from a place on are shown
abbrev pub columns_out : ℕ → List (List ℕ) → List Output
columns_out at [] = []
columns_out at (name ∷ names) = column_out name at ∷ columns_out (suc at) names

abbrev outs_by : Option ℕ → List (List ℕ) → List Output
outs_by (Some key) (name ∷ names) = key_out name false ∷ key_out name true ∷ columns_out 2 names
outs_by _ names = id_out ∷ columns_out 1 names

abbrev sets_by : Option ℕ → List (List ℕ) → List (List ℕ × Expr)
sets_by None names = sets_from 1 names
sets_by (Some key) names = sets_from 2 (drop 1 names)

abbrev values_by : Option ℕ → ℕ → List Term
values_by None count = given_terms 0 count
values_by (Some key) count = lit Null ∷ given_terms 1 (count - 1)

abbrev rowid_and_all : Core → Select
rowid_and_all core = roll-Select (record { with = []; first = core; others = []; order = []; limit = None; offset = None })

module _ (shape : TableShape) where
  -- CREATE of a STRICT table with these columns and rules
  abbrev pub create_of : TableBody → CreateTable
  create_of body = record { if_missing = false; name = shape.name; body = body; is_strict = true; resolves = false }

  abbrev pub width : ℕ
  width = length shape.columns

  abbrev pub names_of : List (List ℕ)
  names_of = map (λ (declared : List ℕ × Kind). declared.0) shape.columns

  -- INSERT of a row of parameters
  abbrev pub given_rows : Rows
  given_rows = rows.Values (parameters 1 width ∷ [])

  abbrev pub insert_of : Statement
  insert_of = written.Insert conflict.Abort shape.name names_of given_rows [] []

  abbrev pub terms_of : List Term
  terms_of = laid_out (lit Null) shape.key (given_terms 0 width)

  -- the test of this many columns after this many others
  abbrev pub test_of : ℕ → ℕ → Expr
  test_of before count = tests_of (take count (drop before names_of))

  -- where they are in a row: the first ones are the key or begin it
  abbrev places_at : ℕ → ℕ → List ℕ
  places_at zero count = take count shape.primary
  places_at (suc before) count = counted (suc (suc before)) count

  abbrev pub finds_of : Bool → ℕ → ℕ → List Term
  finds_of is_strict before count = equals_from shape.columns is_strict 0 (places_at before count)

  -- DELETE of the rows by these columns
  abbrev pub delete_of : ℕ → ℕ → Statement
  delete_of before count = written.Delete shape.name (Some (test_of before count)) []

  -- UPDATE of each column but the rowid
  abbrev pub sets_of : List (List ℕ × Expr)
  sets_of = sets_by shape.key names_of

  abbrev pub values_of : List Term
  values_of = values_by shape.key width

  abbrev pub update_of : ℕ → Statement
  update_of count = written.Update shape.name sets_of (Some (test_of 0 count)) []

  -- SELECT of the rowid and of each column
  abbrev pub core_of : Core
  core_of = roll-Core (record {
    distinct = false;
    shown = shown.One (expr.Column None (codes "rowid")) None (codes "rowid") ∷ shown.All ∷ [];
    from = roll-Source (record { is_left = false; origin = origin.Table shape.name; alias = None; on = None; using = [] }) ∷ [];
    filter = None;
    group = [];
    having = None;
  })

  abbrev pub select_of : Select
  select_of = rowid_and_all core_of

  abbrev pub outs_of : List Output
  outs_of = outs_by shape.key names_of
