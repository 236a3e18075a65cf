-- The texts of a table mean what its row declares. A table gives `Texts`: that its texts are read as the forms of its shape, and what
-- these are resolved to over the table, which the resolver computes of the literal texts. The rest is here, once for all tables.
use Rattle.sql_tables.proofs.Common.{take_all, Null, Int, Words, Row, Schema, Term, col, Command, MakesTable, first, with_command, new_rows, if_select, is_select, Checked, and_then, Parsed, Values, rowid, cast_row, value_rows, with_rowid, Chosen, result, lower, outermost, shown, same_itself, table_named, is_int, eval_all, TableBody, updated, deleted, Output, NoSuchTable, Kind, Key, Cells, are_of, keyed, kinds_of, shared_kinds, TableShape, Sql, Place, Lists, laid_out, rules_of, shape_of, sql_of, table_at, cells, values, begins_with, goes_on, accepts_terms, ◌≡◌, ℕ, ℤ, suc, ◌/◌, slice_get, ◌^◌, List, [], ◌∷◌, length, map, take, drop, slice_range, arith, nat_lt, pos, Bool, true, false, None, Some, Ok, Err, refl, ap, Bytes as Blob, Ours as Table}
use Rattle.sqlite.specs.Compile.{compiled, planned, meaning, command, create_table, delete, update, timed, returning, shows, table_defined_by, table_in}
use Rattle.sqlite.specs.Listing.{listing_schema}
use Rattle.sqlite_ast.specs.declared.Statement.TheVariants as written
use Rattle.sqlite_resolve.specs.Define as define
use Rattle.sqlite_tied.specs.Compute.{everything}
use Rattle.schema.specs.declared.cell.Cell.TheVariants.{Text, Number, Bytes}
use Rattle.schema.specs.declared.cell.Kind.TheVariants as kind
use Rattle.sql_tables.proofs.CreateTable.{IsCreate, made_command}
use Rattle.sql_tables.proofs.InsertRow.{IsInsert}
use Rattle.sql_tables.proofs.QueryRows.{hit}
use Rattle.sql_tables.proofs.SelectAll.{IsAccepted, IsFirst, finding}
use Rattle.sql_tables.proofs.DeleteRows.{IsDelete}
use Rattle.sql_tables.proofs.UpdateRow.{IsUpdate, showing}
use Rattle.sql_tables.proofs.SelectAll.{IsPlainSelect, IsResolved, IsSelect, bounds_at, started, spent}
use Rattle.sql_tables.proofs.Forms.{read_as, width, create_of, names_of, given_rows, insert_of, terms_of, test_of, finds_of, delete_of, sets_of, values_of, update_of, core_of, select_of, outs_of}

-- this holds of each row of these kinds
abbrev pub Each : List Kind → (Row → Type 0) → Type 0
Each [] P = P []
Each (kind.Number ∷ kinds) P = (n : ℤ) → Each kinds (λ row. P (Int n ∷ row))
Each (kind.Text ∷ kinds) P = (text : List ℕ) → Each kinds (λ row. P (Words text ∷ row))
Each (kind.Bytes ∷ kinds) P = (bytes : List ℕ) → Each kinds (λ row. P (Blob bytes ∷ row))

-- so it holds of cells that are of these kinds
pub by_kinds : (kinds : List Kind) (P : Row → Type 0) → Each kinds P → (row : Cells) → are_of kinds row ≡ true → P (values row)
by_kinds [] P each [] is = each
by_kinds [] P each (c ∷ row) is = absurd (cc)
by_kinds (kind.Number ∷ kinds) P each (Number n ∷ row) is = by_kinds kinds _ (each (pos n)) row is
by_kinds (kind.Text ∷ kinds) P each (Text text ∷ row) is = by_kinds kinds _ (each text) row is
by_kinds (kind.Bytes ∷ kinds) P each (Bytes bytes ∷ row) is = by_kinds kinds _ (each bytes) row is
by_kinds _ P each _ is = absurd (cc)

-- what holds of true and of false holds of each
pub either : (P : Bool → Type 0) (b : Bool) → P true → P false → P b
either P true here there = here
either P false here there = there

module _ (table : Table) where
  abbrev shape : TableShape
  shape = shape_of table

  abbrev said : Sql
  said = sql_of table

  -- a row that is given is added as it is, found by its key, and shown where it is set
  pub record Gives (place : Place) (row : Row) : Type 0 where
    pub one : value_rows row (suc (width shape)) (length (terms_of shape) / suc (width shape)) (terms_of shape) ≡ laid_out Null shape.key row ∷ []
    pub counted : length row ≡ length (read_as said.insert (insert_of shape) (width shape)).names
    pub typed : accepts_terms (terms_of shape) row ≡ true
    pub cast : cast_row (table_at table place) (laid_out Null shape.key row) ≡ laid_out Null shape.key row
    pub put : (r : Row) → is_int (rowid r) ≡ true → hit (finds_of shape place.rules.is_strict 0 (keyed table)) (showing (values_of shape)) row r ≡ true
        → cast_row (table_at table place) (rowid r ∷ eval_all (values_of shape) (row ∷ r ∷ [])) ≡ rowid r ∷ drop 1 (laid_out Null shape.key row)
    pub added : (here : List Row) → cells (table_at table place) (with_rowid Chosen here (laid_out Null shape.key row)) ≡ row
    pub finds : (r : Row) → hit (finds_of shape place.rules.is_strict 0 (keyed table)) (showing (values_of shape)) row r ≡ begins_with (take (keyed table) row) (cells (table_at table place) r)
    pub set : (r : Row) → is_int (rowid r) ≡ true → begins_with (take (keyed table) row) (cells (table_at table place) r) ≡ true → cells (table_at table place) (rowid r ∷ drop 1 (laid_out Null shape.key row)) ≡ row

  -- the texts are read as the forms of the shape: CREATE makes the table, INSERT lays a row out, and SELECT shows it
  pub record AreRead : Type 0 where
    pub body : TableBody
    pub create : first said.create ≡ Ok (read_as said.create (written.CreateTable (create_of shape body)) 0)
    pub insert : first said.insert ≡ Ok (read_as said.insert (insert_of shape) (width shape))
    pub update : first said.update ≡ Ok (read_as said.update (update_of shape (keyed table)) (width shape))
    pub delete : first said.delete ≡ Ok (read_as said.delete (delete_of shape 0 (keyed table)) (keyed table))
    pub select : first said.select ≡ Ok (read_as said.select (written.Select (select_of shape)) 0)
    pub defined : define.table [] (create_of shape body) ≡ Ok (table_at table (record { tree = 0; rules = rules_of table }))
    pub unlisted : table_named listing_schema shape.name ≡ None
    pub laid : (schema : Schema) (place : Place) (base : ℕ) → new_rows schema (table_at table place) base (names_of shape) (given_rows shape) ≡ Ok (Values (terms_of shape) (suc (width shape)))
    pub shows : (place : Place) (r : Row) → eval_all (map (λ (o : Output). o.term) (outs_of shape)) ([] ∷ r ∷ []) ≡ shown (table_at table place) r

  -- a test of this many columns after this many others finds rows to remove, where a schema has the table at this position
  abbrev pub Removes : Schema → ℕ → Place → ℕ → ℕ → Type 0
  Removes schema at place before count =
      deleted schema at (table_at table place) (Some (test_of shape before count)) ≡ Ok (finding place.tree (finds_of shape place.rules.is_strict before count) (col 1 0 ∷ []))

  -- the tests are resolved over the table
  pub record AreTested (schema : Schema) (at : ℕ) (place : Place) : Type 0 where
    pub removal : Removes schema at place 0 (keyed table)
    pub change : updated schema at (table_at table place) (sets_of shape) (Some (test_of shape 0 (keyed table))) ≡ Ok (finding place.tree (finds_of shape place.rules.is_strict 0 (keyed table)) (showing (values_of shape)))

  -- Where the table is the first in its tree, what these tests find is accepted: with no parameters, and with those of these kinds.
  abbrev pub AreAccepted : ℕ → ℕ → List Term → List Kind → Bool → Type 0
  AreAccepted before count project kinds is_strict =
      (schema : Schema) (place : Place) → place.rules.is_strict ≡ is_strict → IsFirst schema (table_at table place)
      → IsAccepted schema place.tree (finds_of shape is_strict before count) project [] × Each kinds (λ given. IsAccepted schema place.tree (finds_of shape is_strict before count) project given)

  -- this holds where a schema has the table at a position, which is STRICT or not
  abbrev pub Anywhere : (Schema → ℕ → Place → Type 0) → Bool → Type 0
  Anywhere P is_strict =
      (schema : Schema) (at tree : ℕ) (bare : List Bool) (checks : List Term) → let place : Place = record { tree = tree; rules = record { is_strict = is_strict; bare = bare; checks = checks } } in
      slice_get schema.tables at ≡ Some (table_at table place) → P schema at place

  -- the columns of the whole table are resolved
  abbrev pub IsShown : Type 0
  IsShown = (schema : Schema) (at : ℕ) (place : Place) → slice_get schema.tables at ≡ Some (table_at table place) → nat_lt place.tree (2 ^ 31) ≡ true
      → result lower (outermost schema) (record { tables = bounds_at shape.name at; shown = [] }) (core_of shape) started ≡ Ok (outs_of shape, spent 99999)

  -- each key finds the rows that begin with it
  abbrev pub AreFound : Type 0
  AreFound = (place : Place) → Each (shared_kinds (Key table)) (λ key. (r : Row) → hit (finds_of shape place.rules.is_strict 0 (keyed table)) (col 1 0 ∷ []) key r ≡ begins_with key (cells (table_at table place) r))

  -- what a table gives: how its texts are read and resolved, and, for each row of its kinds, what is found and set
  pub record Texts : Type 0 where
    pub read : AreRead
    pub tested : (is_strict : Bool) → Anywhere AreTested is_strict
    pub typed : (is_strict : Bool) → AreAccepted 0 (keyed table) (showing (values_of shape)) (kinds_of table) is_strict
    pub all : IsShown
    pub seen : (schema : Schema) (place : Place) → IsFirst schema (table_at table place) → IsAccepted schema place.tree [] (map (λ (o : Output). o.term) (outs_of shape)) []
    pub rows : (place : Place) → Each (kinds_of table) (Gives place)

  -- What a text gives that takes rows away by columns of these kinds after this many others: how it is read and resolved, and which rows
  -- a key finds.
  pub record Removal (sql : List ℕ) (before : ℕ) (kinds : List Kind) : Type 0 where
    pub count : ℕ
    pub read : first sql ≡ Ok (read_as sql (delete_of shape before count) count)
    pub tested : (is_strict : Bool) → Anywhere (λ schema at place. Removes schema at place before count) is_strict
    pub counted : Each kinds (λ key. length key ≡ length (read_as sql (delete_of shape before count) count).names)
    pub typed : (is_strict : Bool) → AreAccepted before count (col 1 0 ∷ []) kinds is_strict
    pub keys : (place : Place)
        → Each kinds (λ key. (r : Row) → hit (finds_of shape place.rules.is_strict before count) (col 1 0 ∷ []) key r ≡ goes_on before key (cells (table_at table place) r))

pub read_whole : (sql : List ℕ) → slice_range sql 0 (length sql) ≡ sql
read_whole sql = take_all _ sql (omega arith)

-- what is no query is none on `sqlite_schema`
not_select : (p : Parsed) (r : Checked Command) → ((k : Command) → r ≡ Ok k → is_select k ≡ false)
    → if_select (and_then (and_then (and_then r (λ does. Ok (does, None))) (λ found. Ok ([], found))) (λ plan. Ok (with_command p plan))) ≡ Err NoSuchTable
not_select p (Ok k) other = rw (other k refl) refl
not_select p (Err e) other = refl

-- some place
abbrev nowhere : Place
nowhere = record { tree = 0; rules = record { is_strict = true; bare = []; checks = [] } }

module _ (table : Table) (it : Texts table) where
  abbrev declared : TableShape
  declared = shape_of table

  creates_only : (schema : Schema) (base : ℕ) (k : Command) → command schema [] base (written.CreateTable (create_of declared it.read.body)) ≡ Ok k → k ≡ MakesTable
  unfolding command create_table
  creates_only schema base k h = made_command schema declared.name k (rw it.read.defined at h)

  create_unlisted : if_select (compiled listing_schema (said table).create) ≡ Err NoSuchTable
  unfolding compiled planned meaning timed returning
  create_unlisted = rw it.read.create (not_select (read_as (said table).create (written.CreateTable (create_of declared it.read.body)) 0) _ (λ k h. ap is_select (creates_only listing_schema _ k h)))

  -- the text that makes the table
  pub create_is : IsCreate (said table).create declared (rules_of table)
  unfolding timed returning table_defined_by table_in
  create_is = record {
    p = read_as (said table).create (written.CreateTable (create_of declared it.read.body)) 0;
    parsed = it.read.create;
    unlisted = create_unlisted;
    untimed = λ schema. refl;
    shows = λ schema. refl;
    commands = λ schema. creates_only schema _;
    whole = read_whole (said table).create;
    defined = rw it.read.create it.read.defined;
    named = same_itself declared.name;
  }

  -- the text that adds a row
  pub insert_is : IsInsert (said table).insert declared (kinds_of table)
  insert_is = record {
    p = read_as (said table).insert (insert_of declared) (width declared);
    columns = names_of declared;
    values = given_rows declared;
    terms = terms_of declared;
    width = suc (width declared);
    parsed = it.read.insert;
    statement = refl;
    plain = refl;
    laid = λ schema place. it.read.laid schema place _;
    whole = read_whole (said table).insert;
    ends = omega arith;
    counted = λ row is. (by_kinds (kinds_of table) (Gives table nowhere) (it.rows nowhere) row is).counted;
    typed = λ row is. (by_kinds (kinds_of table) (Gives table nowhere) (it.rows nowhere) row is).typed;
    given = λ place row is.
        let gives = by_kinds (kinds_of table) (Gives table place) (it.rows place) row is in
        record { source = laid_out Null declared.key (values row); is = refl; cast = gives.cast; one = gives.one };
  }

  -- what holds of each row of kinds holds of cells that are of them
  accepted_of : (before count : ℕ) (project : List Term) (kinds : List Kind) → ((is_strict : Bool) → AreAccepted table before count project kinds is_strict) → (schema : Schema) (place : Place) → IsFirst schema (table_at table place)
      → IsAccepted schema place.tree (finds_of declared place.rules.is_strict before count) project [] × ((row : Cells) → are_of kinds row ≡ true → IsAccepted schema place.tree (finds_of declared place.rules.is_strict before count) project (values row))
  accepted_of before count project kinds typed schema place first = let both = typed place.rules.is_strict schema place refl first in (both.0, by_kinds kinds _ both.1)

  -- a text that takes rows away
  pub removal_is : (sql : List ℕ) (before : ℕ) (kinds : List Kind) → Removal table sql before kinds → IsDelete sql declared kinds (goes_on before)
  unfolding compiled planned meaning timed returning shows command delete
  removal_is sql before kinds removal = record {
    test = test_of declared before removal.count;
    tests = λ is_strict. finds_of declared is_strict before removal.count;
    drafted = record { p = read_as sql (delete_of declared before removal.count) removal.count; parsed = removal.read; statement = refl; plain = refl; whole = read_whole sql; ends = omega arith; unlisted = rw (removal.read, it.read.unlisted) refl; untimed = λ schema. refl; shows = λ schema base. refl; commands = λ schema base. refl };
    draft = λ schema at place has. removal.tested place.rules.is_strict schema at place.tree place.rules.bare place.rules.checks has.there;
    counted = by_kinds kinds _ removal.counted;
    accepted = accepted_of before removal.count (col 1 0 ∷ []) kinds removal.typed;
    hits = λ place. by_kinds kinds _ (removal.keys place);
  }

  -- the text that sets a row by its key
  pub update_is : IsUpdate (said table).update declared (kinds_of table) (keyed table)
  unfolding compiled planned meaning timed returning shows command update
  update_is = record {
    sets = sets_of declared;
    test = test_of declared 0 (keyed table);
    tests = λ is_strict. finds_of declared is_strict 0 (keyed table);
    values = values_of declared;
    drafted = record { p = read_as (said table).update (update_of declared (keyed table)) (width declared); parsed = it.read.update; statement = refl; plain = refl; whole = read_whole (said table).update; ends = omega arith; unlisted = rw (it.read.update, it.read.unlisted) refl; untimed = λ schema. refl; shows = λ schema base. refl; commands = λ schema base. refl };
    draft = λ schema at place has. (it.tested place.rules.is_strict schema at place.tree place.rules.bare place.rules.checks has.there).change;
    counted = λ row is. (by_kinds (kinds_of table) (Gives table nowhere) (it.rows nowhere) row is).counted;
    accepted = accepted_of 0 (keyed table) (showing (values_of declared)) (kinds_of table) it.typed;
    hits = λ place row is. (by_kinds (kinds_of table) (Gives table place) (it.rows place) row is).finds;
    put = λ place row is. (by_kinds (kinds_of table) (Gives table place) (it.rows place) row is).put;
  }

  select_plain : IsPlainSelect (said table).select
  unfolding everything
  select_plain = record {
    p = read_as (said table).select (written.Select (select_of declared)) 0;
    s = select_of declared;
    parsed = it.read.select;
    statement = refl;
    plain = refl;
    no_names = refl;
    no_with = refl;
    no_others = refl;
    no_order = refl;
    no_limit = refl;
    no_offset = refl;
    no_group = refl;
    no_having = refl;
    no_distinct = refl;
    whole = read_whole (said table).select;
    ends = omega arith;
    from = λ q schema lets. refl;
  }

  select_unlisted : if_select (compiled listing_schema (said table).select) ≡ Err NoSuchTable
  unfolding everything listing_schema
  select_unlisted = rw (it.read.select, it.read.unlisted) refl

  select_resolved : (schema : Schema) (place : Place) (listed : Lists schema (table_at table place)) → nat_lt place.tree (2 ^ 31) ≡ true
      → IsResolved schema (core_of declared) declared.name listed.at place.tree 99999 (outs_of declared)
  unfolding everything
  select_resolved schema place listed low = record {
    bounds = rw listed.named refl;
    result = it.all schema listed.at place listed.there low;
    joined = rw listed.there refl;
  }

  -- the text that reads the table
  pub select_is : IsSelect (said table).select declared
  unfolding select_plain
  select_is = record {
    plain = select_plain;
    unlisted = select_unlisted;
    budget = 99999;
    outs = outs_of declared;
    resolved = select_resolved;
    accepted = it.seen;
    shows = it.read.shows;
  }
