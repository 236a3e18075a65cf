-- The rows that a statement over one table finds.
use Rattle.sql_tables.proofs.Common.{flat_map, list_all, IsPermutation, IsPermutation-map, Env, eval_all, holds, Null, Program, Checked, and_then, Mismatch, Command, overlay, Row, Database, Answers, Schema, Table, IsWrite, compiled, first, timed, returning, command, on_table, with_command, listing_schema, if_select, understood, text_of, Parsed, Statement, Draft, Compiled, NoSuchTable, Place, TableShape, Lists, made_at, IsWriteOf, ◌≡◌, ◌≤◌, length, ℕ, List, [], ◌∷◌, ◌++◌, slice_range, None, Ok, Err, ap, refl, sym, subst₂, ◌∙◌, false, Bool, true, if◌then◌else◌, cond, map, filter}
use Rattle.sqlite_sql.specs.Term.{Term}
use Rattle.sqlite_sql.specs.Query.{IsAnswer, output, Output}
use Rattle.sqlite_resolve.specs.Program.{program}
use Rattle.sql_tables.proofs.Understood.{planned_of, Means, IsWriteText, and_then_ok, ends_in_write, on_table_writes, compiles_to_write}
use Rattle.sql_tables.proofs.InsertRow.{compiled_is, has_listed, on_table_is, understood_is}
use Rattle.sql_tables.proofs.SelectAll.{IsAccepted, found_program, finding, no_overlay, found_query}

-- a program that is accepted is the command's
pub accepted : (b : Bool) (p : Program) (f : Program → Command) (k : Command) → ◌≡◌ {A = Checked Command} (and_then (if b then Ok p else Err Mismatch) (λ p. Ok (f p))) (Ok k) → k ≡ f p
accepted true p f k h = cc
accepted false p f k h = absurd (cc)

-- a text whose statement is compiled over the table of this name, by what it drafts there, to a command over the rows that the draft finds
pub record IsDrafted (sql name : List ℕ) (s : Statement) (draft : Schema → ℕ → Table → Checked Draft) (make : ℕ → Program → Command) : Type 0 where
  pub p : Parsed
  pub parsed : first sql ≡ Ok p
  pub statement : p.statement ≡ s
  pub plain : p.formats ≡ []
  pub whole : slice_range sql p.start p.end ≡ sql
  pub ends : length sql ≤ p.tail
  pub unlisted : if_select (compiled listing_schema sql) ≡ Err NoSuchTable
  pub untimed : (schema : Schema) → timed schema [] s ≡ []
  pub shows : (schema : Schema) (base : ℕ) → returning schema base s ≡ Ok None
  pub commands : (schema : Schema) (base : ℕ) → command schema [] base s ≡ on_table schema name (λ at table. and_then (draft schema at table) (λ d. and_then (program schema [] d) (λ q. Ok (make at q))))

module _ (sql : List ℕ) (shape : TableShape) (s : Statement) (draft : Schema → ℕ → Table → Checked Draft) (make : ℕ → Program → Command) (it : IsDrafted sql shape.name s draft make) where
  -- the text is that of a write, where such a command is one
  pub drafted_writes : ((at : ℕ) (q : Program) → IsWrite (make at q)) → IsWriteText sql
  drafted_writes writes = compiles_to_write sql it.p it.parsed (λ schema base k h. on_table_writes schema shape.name _ k (λ at table e.
      let planned = and_then_ok (draft schema at table) _ k e in
      ends_in_write (program schema [] planned.0) (make at) k (writes at) planned.2) (sym (it.commands schema base) ∙ rw (it.plain, it.statement) at h))

  module _ (schema : Schema) (place : Place) (tests project : List Term) (listed : Lists schema (made_at shape place))
      (drafts : draft schema listed.at (made_at shape place) ≡ Ok (finding place.tree tests project)) where
    found_command : (base : ℕ) (k : Command) → command schema [] base s ≡ Ok k → k ≡ make listed.at (found_program place.tree tests project)
    unfolding program
    found_command base k h =
        let over = on_table_is schema shape.name listed.at (made_at shape place) _ (has_listed schema (made_at shape place) listed) in
        accepted _ (found_program place.tree tests project) (make listed.at) k (rw drafts at (sym over ∙ sym (it.commands schema base) ∙ h))

    -- the text means the command over the rows that these tests find
    pub drafted_means : Means schema sql (make listed.at (found_program place.tree tests project)) sql
    drafted_means c h =
        let p = planned_of schema sql it.p c it.unlisted it.parsed h in
        let q = rw (it.plain, it.statement, it.untimed schema) at p in
        let k = found_command _ q.1 q.3 in
        let none : q.0 ≡ None = let e = sym q.2 ∙ it.shows schema _ in cc in
        (ap (λ (it : Compiled). it.command) q.4 ∙ k, ap (λ (it : Compiled). it.returning) q.4 ∙ none, ap (λ (it : Compiled). it.formats) q.4, ap (text_of sql) q.4 ∙ it.whole)

  module _ (schema : Schema) (place : Place) (tests project : List Term) (listed : Lists schema (made_at shape place))
      (drafts : draft schema listed.at (made_at shape place) ≡ Ok (finding place.tree tests project)) (typed : IsAccepted schema place.tree tests project []) where
    commands_so : (base : ℕ) → command schema [] base s ≡ Ok (make listed.at (found_program place.tree tests project))
    unfolding program
    commands_so base = it.commands schema base ∙ on_table_is schema shape.name listed.at (made_at shape place) _ (has_listed schema (made_at shape place) listed) ∙ rw drafts (rw typed refl)

    abbrev meant : Compiled
    meant = with_command it.p ([], (make listed.at (found_program place.tree tests project), None))

    compiles : understood schema sql ≡ Ok meant
    compiles = understood_is schema sql _ (compiled_is schema sql it.p [] None _ it.parsed (rw (it.plain, it.statement) (it.untimed schema)) (rw it.statement (it.shows schema _)) (rw (it.plain, it.statement) (commands_so _)))

    -- under this schema the text is the command over the rows that these tests find
    pub drafted_text : (given : Row) → length given ≡ length it.p.names → IsWrite (make listed.at (found_program place.tree tests project)) → IsWriteOf schema sql given (make listed.at (found_program place.tree tests project))
    drafted_text given counted writes = record { text = record { meant = meant; is = compiles; whole = it.ends; counted = counted; plain = refl }; silent = refl; runs = refl; writes = writes }

module _ (tests project : List Term) (params : Row) where
  -- whether the tests find a row
  abbrev pub hit : Row → Bool
  hit r = list_all (holds (params ∷ r ∷ [])) tests

  matched_go : (r : Row) (b : Bool) (rest : List Env) (more : List Row) → rest ≡ map (λ (r : Row). params ∷ r ∷ []) more
      → cond b ((params ∷ r ∷ []) ∷ []) [] ++ rest ≡ map (λ (r : Row). params ∷ r ∷ []) (cond b (r ∷ more) more)
  matched_go r true rest more later = ap (λ xs. (params ∷ r ∷ []) ∷ xs) later
  matched_go r false rest more later = later

  matched : (rows : List Row) → flat_map (λ (r : Row). cond (hit r) ((params ∷ r ∷ []) ∷ []) []) rows ≡ map (λ (r : Row). params ∷ r ∷ []) (filter hit rows)
  matched [] = refl
  matched (r ∷ rows) = matched_go r (hit r) _ (filter hit rows) (matched rows)

  shows_each : (tree : ℕ) (rows : List Row) → map (λ (o : Output). o.1) (map (output (found_query tree tests project)) (map (λ (r : Row). params ∷ r ∷ []) rows)) ≡ map (λ (r : Row). eval_all project (params ∷ r ∷ [])) rows
  shows_each tree [] = refl
  shows_each tree (r ∷ rows) = ap (λ more. eval_all project (params ∷ r ∷ []) ∷ more) (shows_each tree rows)

  -- what the query answers of them
  pub found : (db : Database) (tree : ℕ) (rows : List Row) → Answers db (found_program tree tests project) params rows
      → IsPermutation (map (λ (r : Row). eval_all project (params ∷ r ∷ [])) (filter hit (db.trees tree))) rows
  found db tree rows answers =
      let q = found_query tree tests project in
      let a : IsAnswer q (overlay db.trees []) params rows = answers.answer Null in
      let staged : a.staged ≡ map (λ (r : Row). params ∷ r ∷ []) (filter hit (db.trees tree)) =
      a.grouped ∙ ap (flat_map (λ (r : Row). cond (hit r) ((params ∷ r ∷ []) ∷ []) [])) (no_overlay db.trees tree) ∙ matched (db.trees tree) in
      let first = ap (map (λ (o : Output). o.1)) (a.distinct ∙ ap (map (output q)) staged) ∙ shows_each tree (filter hit (db.trees tree)) in
      subst₂ IsPermutation first (sym a.shown) (IsPermutation-map (λ (o : Output). o.1) _ _ a.same)
