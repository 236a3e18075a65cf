-- DELETE of the rows that the given values find.
use Rattle.sql_tables.proofs.Common.{Schema, Table, Row, Expr, deleted, Program, Delete, Database, Answers, Written, Tally, Does, Mode, edit_of, Applies, Given, ids_of, works, one_step, Kind, Cells, are_of, Place, TableShape, cells, made_at, values, ◌≡◌, ℕ, length, List, [], ◌∷◌, slice_get, Option, Some, None, Ok, sym, ap, subst, ◌∙◌, Bool, true}
use Rattle.sqlite_ast.specs.declared.Statement.TheVariants as written
use Rattle.sqlite_sql.specs.Term.{Term, col}
use Rattle.sql_tables.proofs.InsertKeyed.{went, same_value}
use Rattle.sql_tables.proofs.Understood.{IsWriteText}
use Rattle.sql_tables.proofs.InsertRow.{Has}
use Rattle.sql_tables.proofs.QueryRows.{IsDrafted, drafted_writes, hit}
use Rattle.sql_tables.proofs.SelectAll.{IsAccepted, IsFirst, finding}

-- A text that deletes, read under any schema that lists a table of this shape, and what its test finds, as the table is STRICT or not, by
-- parameters of these kinds.
pub record IsDelete (sql : List ℕ) (shape : TableShape) (kinds : List Kind) (goes : Row → Row → Bool) : Type 0 where
  pub test : Expr
  pub tests : Bool → List Term
  pub drafted : IsDrafted sql shape.name (written.Delete shape.name (Some test) []) (λ schema at table. deleted schema at table (Some test)) Delete
  pub draft : (schema : Schema) (at : ℕ) (place : Place) → Has schema shape.name at (made_at shape place) → deleted schema at (made_at shape place) (Some test) ≡ Ok (finding place.tree (tests place.rules.is_strict) (col 1 0 ∷ []))
  pub counted : (key : Cells) → are_of kinds key ≡ true → length (values key) ≡ length drafted.p.names
  pub accepted : (schema : Schema) (place : Place) → IsFirst schema (made_at shape place) → IsAccepted schema place.tree (tests place.rules.is_strict) (col 1 0 ∷ []) []
      × ((key : Cells) → are_of kinds key ≡ true → IsAccepted schema place.tree (tests place.rules.is_strict) (col 1 0 ∷ []) (values key))
  pub hits : (place : Place) (key : Cells) → are_of kinds key ≡ true → (r : Row) → hit (tests place.rules.is_strict) (col 1 0 ∷ []) (values key) r ≡ goes (values key) (cells (made_at shape place) r)

-- what a DELETE does where no foreign key acts
pub delete_does : (limit : Option ℕ) (mode : Mode) (params : Row) (db after : Database) (text : List ℕ) (at : ℕ) (table : Table) (q : Program) (tally : Tally)
    → slice_get db.schema.tables at ≡ Some table → ((olds : List Row) → works db.schema mode.keys 0 table.tree olds [] ≡ [])
    → Does limit mode params db text None (Delete at q) (Ok (tally, after))
    → (after.schema ≡ db.schema) × (rows : List Row) × Answers db q params rows × Applies db.schema mode.keys db.trees (edit_of db.trees table (ids_of rows) Given 0 []) after.trees
delete_does limit mode params db after text at table q tally there inert h =
    let done = went (rw there at h) in
    let now = ap (λ (p : Tally × Database). p.1) (same_value (went (went done.2).2).2) in
    let given = went done.1 in
    let edited = went given.2 in
    let edit = edit_of db.trees table (ids_of given.0) Given 0 [] in
    let trees : done.0.trees ≡ edited.0 = ap (λ (it : Written). it.trees) (same_value edited.2) in
    let made : Applies db.schema mode.keys db.trees edit edited.0 = one_step db.schema mode.keys db.trees edited.0 edit (inert _) edited.1 in
    (ap (λ (d : Database). d.schema) now, given.0, given.1, subst (Applies db.schema mode.keys db.trees edit) (sym (ap (λ (d : Database). d.trees) now ∙ trees)) made)

module _ (sql : List ℕ) (shape : TableShape) (kinds : List Kind) (goes : Row → Row → Bool) (it : IsDelete sql shape kinds goes) where
  -- the text is that of a write
  pub delete_writes : IsWriteText sql
  delete_writes = drafted_writes sql shape _ _ Delete it.drafted (λ at q. tt)
