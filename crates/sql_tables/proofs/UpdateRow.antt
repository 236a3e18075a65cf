-- UPDATE by key, which sets every column but the rowid.
use Rattle.sql_tables.proofs.Common.{Schema, Table, Null, Row, Expr, updated, eval_all, is_int, Update, Program, rowid, put_row, Database, Answers, Written, Tally, Does, Mode, cast_row, edit_of, Applies, numbered, Given, ids_of, works, one_step, Kind, Cells, are_of, Place, TableShape, cells, laid_out, made_at, sql_values, begins_with, ◌≡◌, ℕ, length, List, [], ◌∷◌, slice_get, Option, Some, None, Ok, refl, sym, ap, subst, ◌∙◌, true, take, drop, Bool}
use Rattle.sqlite_ast.specs.declared.Statement.TheVariants as written
use Rattle.sqlite_sql.specs.Term.{Term, col}
use Rattle.sql_tables.proofs.InsertKeyed.{went, same_value}
use Rattle.sql_tables.proofs.Understood.{IsWriteText}
use Rattle.sql_tables.proofs.InsertRow.{Has as Finds}
use Rattle.sql_tables.proofs.QueryRows.{IsDrafted, drafted_writes, hit}
use Rattle.sql_tables.proofs.SelectAll.{IsAccepted, IsFirst, finding}

-- what an UPDATE shows of a row that it finds: its rowid, the rowid that it gets, which is the same, and the other columns
abbrev pub showing : List Term → List Term
showing values = col 1 0 ∷ col 1 0 ∷ values

-- A text that updates, read under any schema that lists a table of this shape, with what its test finds, as the table is STRICT or not, the
-- rows that have the key of its parameters, and what it makes of each: the row that its parameters are, where those are of these kinds.
pub record IsUpdate (sql : List ℕ) (shape : TableShape) (kinds : List Kind) (width : ℕ) : Type 0 where
  pub sets : List (List ℕ × Expr)
  pub test : Expr
  pub tests : Bool → List Term
  pub values : List Term
  pub drafted : IsDrafted sql shape.name (written.Update shape.name sets (Some test) []) (λ schema at table. updated schema at table sets (Some test)) Update
  pub draft : (schema : Schema) (at : ℕ) (place : Place) → Finds schema shape.name at (made_at shape place) → updated schema at (made_at shape place) sets (Some test) ≡ Ok (finding place.tree (tests place.rules.is_strict) (showing values))
  pub counted : (row : Cells) → are_of kinds row ≡ true → length (sql_values row) ≡ length drafted.p.names
  pub accepted : (schema : Schema) (place : Place) → IsFirst schema (made_at shape place) → IsAccepted schema place.tree (tests place.rules.is_strict) (showing values) []
      × ((row : Cells) → are_of kinds row ≡ true → IsAccepted schema place.tree (tests place.rules.is_strict) (showing values) (sql_values row))
  pub hits : (place : Place) (row : Cells) → are_of kinds row ≡ true → (r : Row) → hit (tests place.rules.is_strict) (showing values) (sql_values row) r ≡ begins_with (take width (sql_values row)) (cells (made_at shape place) r)
  pub put : (place : Place) (row : Cells) → are_of kinds row ≡ true → (r : Row) → is_int (rowid r) ≡ true → hit (tests place.rules.is_strict) (showing values) (sql_values row) r ≡ true
      → cast_row (made_at shape place) (rowid r ∷ eval_all values (sql_values row ∷ r ∷ [])) ≡ rowid r ∷ drop 1 (laid_out Null shape.key (sql_values row))

-- what an UPDATE does, where no foreign key acts
pub update_does : (limit : Option ℕ) (mode : Mode) (params : Row) (db after : Database) (text : List ℕ) (at : ℕ) (table : Table) (q : Program) (tally : Tally)
    → slice_get db.schema.tables at ≡ Some table → ((olds news : List Row) → works db.schema mode.keys 0 table.tree olds news ≡ [])
    → Does limit mode params db text None (Update at q) (Ok (tally, after))
    → (after.schema ≡ db.schema) × (rows : List Row) × Answers db q params rows × Applies db.schema mode.keys db.trees (edit_of db.trees table (ids_of rows) Given 1 rows) after.trees
update_does limit mode params db after text at table q tally there inert h =
    let done = went (rw there at h) in
    let now = ap (λ (p : Tally × Database). p.1) (same_value (went (went done.2).2).2) in
    let given = went done.1 in
    let edited = went given.2 in
    let edit = edit_of db.trees table (ids_of given.0) Given 1 given.0 in
    let trees : done.0.trees ≡ edited.0 = ap (λ (it : Written). it.trees) (same_value edited.2) in
    let made : Applies db.schema mode.keys db.trees edit edited.0 = one_step db.schema mode.keys db.trees edited.0 edit (inert _ _) edited.1 in (
      ap (λ (d : Database). d.schema) now,
      given.0,
      given.1,
      subst (Applies db.schema mode.keys db.trees edit) (sym (ap (λ (d : Database). d.trees) now ∙ trees)) made,
    )

pub numbered_given : (news left : List Row) → numbered Given left news ≡ news
numbered_given [] left = refl
numbered_given (n ∷ news) left = ap (λ more. n ∷ more) (numbered_given news (put_row n left))

abbrev pub remade : Table → Row → Row
remade t s = cast_row t (drop 1 s)

module _ (sql : List ℕ) (shape : TableShape) (kinds : List Kind) (width : ℕ) (it : IsUpdate sql shape kinds width) where
  -- the text is that of a write
  pub update_writes : IsWriteText sql
  update_writes = drafted_writes sql shape _ _ Update it.drafted (λ at q. tt)
