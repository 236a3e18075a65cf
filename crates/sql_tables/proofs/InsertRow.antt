-- What an INSERT of one row does to the rows of a table, and what its text means under any schema.
use Rattle.sql_tables.proofs.Common.{Value, Null, Int, Bytes, Row, Schema, Table, Term, Integer, Blob, cast, cast_row, id_in, is_int, int_is, value_rows, Insert, Values, text_of, first, small, with_command, on_table, new_rows, table_named, Returning, Parsed, Statement, Rows, Checked, Compiled, IsWrite, accepts_terms, Command, Kind, Cells, are_of, Place, TableShape, Lists, kind_in, laid_out, made_at, sql_values, IsWriteOf, ◌≡◌, ◌≤◌, ℕ, ℤ, ◌+◌, ◌/◌, length, List, [], ◌∷◌, slice_get, slice_range, Option, Some, None, Ok, refl, sym, ap, subst, ◌∙◌, false, true, Bool, cond}
use Rattle.sqlite.specs.Ops.{unary}
use Rattle.sqlite.specs.Compile.{compiled, timed, returning, command, planned, meaning, insert, insert_or_abort, shows}
use Rattle.sqlite.specs.Listing.{understood}
use Rattle.sqlite_ast.specs.declared.Statement.TheVariants as written
use Rattle.sqlite_ast.specs.declared.Conflict.TheVariants as conflict
use Rattle.sql_tables.proofs.Understood.{Means, IsWriteText, ends_in_write, on_table_writes, compiles_to_write}

either : (b : Bool) (x : Value) → cond b x x ≡ x
either true x = refl
either false x = refl

-- NULL stays what it is under the affinity of an integer column
pub cast_null : cast Integer Null ≡ Null
unfolding unary
cast_null = either _ Null

-- so does an integer
pub cast_int : (n : ℤ) → cast Integer (Int n) ≡ Int n
unfolding unary
cast_int n = either _ (Int n)

pub cast_id : (id : Value) → is_int id ≡ true → cast Integer id ≡ id
cast_id id int = subst (λ v. cast Integer v ≡ v) (sym (int_is id int)) (cast_int (id_in id))

-- and bytes in a column that was declared to be a BLOB
pub cast_bytes : (is_strict : Bool) (bytes : List ℕ) → cast (kind_in Blob is_strict) (Bytes bytes) ≡ Bytes bytes
cast_bytes true bytes = refl
cast_bytes false bytes = refl

-- a name that finds a table at a position of the schema
pub record Has (schema : Schema) (name : List ℕ) (at : ℕ) (table : Table) : Type 0 where
  pub named : table_named schema name ≡ Some at
  pub there : slice_get schema.tables at ≡ Some table

-- a table that is listed is found by its name
pub has_listed : (schema : Schema) (table : Table) (listed : Lists schema table) → Has schema table.name listed.at table
has_listed schema table listed = record { named = listed.named; there = listed.there }

-- what is compiled over a table that is found is compiled over it
pub on_table_is : (schema : Schema) (name : List ℕ) (at : ℕ) (table : Table) (f : ℕ → Table → Checked Command) → Has schema name at table → on_table schema name f ≡ f at table
on_table_is schema name at table f has = rw (has.named, has.there) refl

pub understood_is : (schema : Schema) (sql : List ℕ) (c : Compiled) → compiled schema sql ≡ Ok c → understood schema sql ≡ Ok c
unfolding understood
understood_is schema sql c h = rw h refl

pub compiled_is : (schema : Schema) (sql : List ℕ) (p : Parsed) (formats : List (List ℕ)) (shown : Option Returning) (c : Command) → first sql ≡ Ok p → timed schema p.formats p.statement ≡ formats
    → returning schema (small p.names + small formats) p.statement ≡ Ok shown → command schema p.formats (small p.names + small formats) p.statement ≡ Ok c → compiled schema sql ≡ Ok (with_command p (formats, (c, shown)))
unfolding compiled planned meaning
compiled_is schema sql p formats shown c parsed is_timed shows commands = rw (parsed, is_timed, shows, commands) refl

-- with these parameters the terms are one row, whose columns are given
pub record IsGiven (made : Table) (params : Row) (terms : List Term) (width : ℕ) (given : Row) : Type 0 where
  pub source : Row
  pub is : source ≡ laid_out Null made.key given
  pub cast : cast_row made source ≡ source
  pub one : value_rows params width (length terms / width) terms ≡ source ∷ []

-- The text of an INSERT of one row of terms, read under a table of this shape alone, and the row that it adds: that of its
-- parameters, where those are of these kinds.
pub record IsInsert (sql : List ℕ) (shape : TableShape) (kinds : List Kind) : Type 0 where
  pub p : Parsed
  pub columns : List (List ℕ)
  pub values : Rows
  pub terms : List Term
  pub width : ℕ
  pub parsed : first sql ≡ Ok p
  pub statement : p.statement ≡ written.Insert conflict.Abort shape.name columns values [] []
  pub plain : p.formats ≡ []
  pub laid : (schema : Schema) (place : Place) → new_rows schema (made_at shape place) (small p.names + small []) columns values ≡ Ok (Values terms width)
  pub whole : slice_range sql p.start p.end ≡ sql
  pub ends : length sql ≤ p.tail
  pub counted : (row : Cells) → are_of kinds row ≡ true → length (sql_values row) ≡ length p.names
  pub typed : (row : Cells) → are_of kinds row ≡ true → accepts_terms terms (sql_values row) ≡ true
  pub given : (place : Place) (row : Cells) → are_of kinds row ≡ true → IsGiven (made_at shape place) (sql_values row) terms width (sql_values row)

module _ (sql : List ℕ) (shape : TableShape) (kinds : List Kind) (it : IsInsert sql shape kinds) (schema : Schema) (at : ℕ) (place : Place)
    (has : Has schema shape.name at (made_at shape place)) where
  abbrev statement : Statement
  statement = written.Insert conflict.Abort shape.name it.columns it.values [] []

  commands : command schema [] (small it.p.names + small []) statement ≡ Ok (Insert at (Values it.terms it.width))
  unfolding command insert insert_or_abort
  commands = on_table_is schema shape.name at (made_at shape place) _ has ∙ rw (it.laid schema place) refl

  no_time : timed schema [] statement ≡ []
  unfolding timed
  no_time = rw (has.named, has.there) refl

  shows_none : (base : ℕ) → returning schema base statement ≡ Ok None
  unfolding returning shows
  shows_none base = refl

  compiles : understood schema sql ≡ Ok (with_command it.p ([], (Insert at (Values it.terms it.width), None)))
  compiles = understood_is schema sql _ (compiled_is schema sql it.p [] None _ it.parsed (rw (it.plain, it.statement) no_time) (rw it.statement (shows_none _)) (rw (it.plain, it.statement) commands))

  -- under this schema the text is the INSERT at the table's position
  pub insert_text : (row : Cells) → are_of kinds row ≡ true → IsWriteOf schema sql (sql_values row) (Insert at (Values it.terms it.width))
  insert_text row fits = record {
    text = record { meant = with_command it.p ([], (Insert at (Values it.terms it.width), None)); is = compiles; whole = it.ends; counted = it.counted row fits; plain = refl };
    silent = refl;
    runs = refl;
    writes = tt;
  }

  -- the text means the INSERT at the table's position
  pub insert_means : Means schema sql (Insert at (Values it.terms it.width)) sql
  insert_means c h =
      let is : Ok (with_command it.p ([], (Insert at (Values it.terms it.width), None))) ≡ Ok c = sym compiles ∙ h in
      let same : with_command it.p ([], (Insert at (Values it.terms it.width), None)) ≡ c = cc in
      (sym (ap (λ (it : Compiled). it.command) same), sym (ap (λ (it : Compiled). it.returning) same), sym (ap (λ (it : Compiled). it.formats) same), sym (ap (text_of sql) same) ∙ it.whole)

module _ (sql : List ℕ) (shape : TableShape) (kinds : List Kind) (it : IsInsert sql shape kinds) where
  insert_command : (schema : Schema) (base : ℕ) (k : Command) → command schema [] base (written.Insert conflict.Abort shape.name it.columns it.values [] []) ≡ Ok k → IsWrite k
  unfolding command insert insert_or_abort
  insert_command schema base k = on_table_writes schema shape.name _ k (λ at table. ends_in_write (new_rows schema table base it.columns it.values) (λ s. Insert at s) k (λ s. tt))

  -- the text is that of a write
  pub insert_writes : IsWriteText sql
  insert_writes = compiles_to_write sql it.p it.parsed (λ schema base k h. insert_command schema base k (rw (it.plain, it.statement) at h))
