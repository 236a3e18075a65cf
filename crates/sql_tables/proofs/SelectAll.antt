-- SELECT of the columns of a whole table, under any schema that lists it.
use Rattle.sql_tables.proofs.Common.{Schema, compiled, first, Parsed, Select, out-Select, Core, out-Core, Null, Int, Term, lit, col, Building, Shown, lift, or_view, sources, Checked, and_then, fresh, max_budget, Output, bounds, result, matching, lower, Binary, outermost, Command, Draft, Program, NoSuchTable, Mismatch, understood, reads_listing, IsSourceOf, listing_schema, if_select, State, IsUnchanged, text_of, Compiled, IsPermutation, IsPermutation-map, IsPermutation-sym, IsPermutation-trans, Table, lets_of, accepts_program, Trees, Row, Database, Reads, overlay, shown, eval_all, Place, TableShape, Lists, made_at, IsKeyed, Stands, Shows, Rests, RanQuery, map-map, IsRolledBack, Error, ◌≡◌, ◌≤◌, ◌==◌, find, length, ℕ, List, [], ◌∷◌, codes, slice_get, slice_range, Some, None, Ok, Err, refl, sym, ap, subst, ◌∙◌, false, true, drop, pos, negsuc, Bool, if◌then◌else◌, map, unwrap_or, nat_le, nat_lt, ◌-◌, ◌^◌, subst₂, append-nil, inl, inr}
use Rattle.sqlite.specs.Compile.{timed, returning, command, read}
use Rattle.sqlite_ast.specs.declared.Statement.TheVariants as written
use Rattle.sqlite.specs.Query.{Query, inner, end, IsAnswer, output, Output as Output'}
use Rattle.sqlite_resolve.specs.Terms.{number}
use Rattle.sqlite_resolve.specs.Select.{named, paging, constant_or}
use Rattle.sqlite_resolve.specs.Program.{query, query_to, program, viewing, single, alone, whole, level, with}
use Rattle.sqlite_resolve.specs.declared.state.State.{State as LState}
use Rattle.sqlite_resolve.specs.declared.scope.Bound.{Bound}
use Rattle.sqlite_resolve.specs.Body.{body, tests}
use Rattle.sqlite_resolve.specs.Select.{parts, assembled, having, ungrouped}
use Rattle.sqlite_resolve.specs.Order.{keys, sorts}
use Rattle.sqlite_resolve.specs.declared.body.Body.{Body}
use Rattle.sqlite_resolve.specs.declared.select.Clauses.{Clauses}
use Rattle.sqlite.specs.Command.TheVariants as command
use Rattle.sqlite_schema.specs.declared.program.Table.{Table as Let}
use Rattle.sqlite_draft.specs.Query.{query_of}
use Rattle.sqlite_draft.specs.declared.join.Step.TheVariants.{Inner}
use Rattle.sqlite.specs.State.{Shown as HasShown}
use Rattle.sql_tables.proofs.Understood.{planned_of, compiled_of, Means}
use Rattle.std.proofs.lemmas.List.Concat.{flat_map_single}
use Rattle.sql_tables.proofs.Rowids.{keyed_by_ids, keyed_permuted}
use Rattle.sqlite.specs.State.{CommitsShowing, FailsToQuery, IsNotRun}

abbrev pub Page : Type 0
Page = Term × Term

abbrev pub no_page : Page
no_page = (lit (Int (negsuc 0)), number 0)

-- what changed nothing rests
unchanged_rests : (old new : State) → IsUnchanged old new → Rests old new
unchanged_rests old new same up = (same.0.was_open, λ settled. (same.0.now_is, same.0.committed_is))

-- so does what was rolled back
rolled_rests : (old new : State) → IsRolledBack old new → Rests old new
rolled_rests old new back up = (back.was_open up, λ settled. let undone = back.undone up in (undone.0 ∙ sym settled, undone.1))

-- and what was not run
pub not_run_rests : (old new : State) (sql : List ℕ) (params : Row) (e : Error) → IsNotRun old new sql params e → Rests old new
unfolding IsNotRun
not_run_rests old new sql params e (inl h) = unchanged_rests old new h.1
not_run_rests old new sql params e (inr h) = rolled_rests old new h.3

-- the parts of a plain SELECT
pub record IsPlainSelect (sql : List ℕ) : Type 0 where
  pub p : Parsed
  pub s : Select
  pub parsed : first sql ≡ Ok p
  pub statement : p.statement ≡ written.Select s
  pub plain : p.formats ≡ []
  pub no_names : p.names ≡ []
  pub no_with : (out-Select s).with ≡ []
  pub no_others : (out-Select s).others ≡ []
  pub no_order : (out-Select s).order ≡ []
  pub no_limit : (out-Select s).limit ≡ None
  pub no_offset : (out-Select s).offset ≡ None
  pub no_group : (out-Core (out-Select s).first).group ≡ []
  pub no_having : (out-Core (out-Select s).first).having ≡ None
  pub no_distinct : (out-Core (out-Select s).first).distinct ≡ false
  pub whole : slice_range sql p.start p.end ≡ sql
  pub ends : length sql ≤ p.tail
  pub from : (q : Schema → Select → Building Shown) (schema : Schema) (lets : List Let) → sources q schema (out-Core (out-Select s).first).from lets ≡ Ok (schema, lets)

module _ (q : Schema → Select → Building Shown) (schema : Schema) (core : Core) (page : Page) (shown : Shown) (is : named schema core [] page ≡ Ok shown) (lets : List Let)
    (from : sources q schema (out-Core core).from lets ≡ Ok (schema, lets)) where
  viewed : viewing q schema core [] page 64 schema lets ≡ Ok ((shown, schema), lets)
  unfolding viewing
  viewed = ap (λ r. or_view q (viewing q schema core [] page 63) schema schema r lets) is

  singled : single q schema core [] page lets ≡ Ok ((shown, schema), lets)
  unfolding single
  singled = ap (λ r. and_then r (λ found. viewing q schema core [] page 64 found.0 found.1)) from ∙ viewed

  -- a core alone
  pub aloned : alone q schema core [] page lets ≡ Ok (shown, lets)
  unfolding alone
  aloned = ap (λ r. and_then r (λ found. lift (Ok found.0.0) found.1)) singled

module _ (q : Schema → Select → Building Shown) (schema : Schema) (sql : List ℕ) (it : IsPlainSelect sql) (shown : Shown) (is : named schema (out-Select it.s).first [] no_page ≡ Ok shown) where
  wholed : whole q schema it.s [] ≡ Ok (shown, [])
  unfolding whole paging constant_or
  wholed = rw (it.no_limit, it.no_offset, it.no_others, it.no_order) (aloned q schema (out-Select it.s).first no_page shown is [] (it.from q schema []))

  -- a query at its level
  pub levelled : level q schema it.s [] ≡ Ok (shown, [])
  unfolding level with
  levelled = rw it.no_with wholed

module _ (schema : Schema) (sql : List ℕ) (it : IsPlainSelect sql) (shown : Shown) (is : named schema (out-Select it.s).first [] no_page ≡ Ok shown) where
  -- and so a whole query is resolved
  pub queried : query schema it.s ≡ Ok (shown, [])
  unfolding query query_to
  queried = levelled (query_to 15) schema sql it shown is

-- where the query of one table of this name is
abbrev pub bounds_at : List ℕ → ℕ → List Bound
bounds_at name at = record { name = name; table = at; slot = 1; shared = [] } ∷ []

abbrev pub started : LState
started = record (fresh 1 max_budget) { next = 2 }

-- after columns that took so much of the budget
abbrev pub spent : ℕ → LState
spent budget = record started { budget = budget }

-- a column of the table, under its name
abbrev pub column_out : List ℕ → ℕ → Output
column_out name place = record { name = name; is_alias = true; is_column = true; term = col 1 place; carried = record { collation = Some Binary; is_written = false } }

-- the rowid, under the name of the column that it is, if it is one
abbrev pub key_out : List ℕ → Bool → Output
key_out name is_alias = record { name = name; is_alias = is_alias; is_column = true; term = col 1 0; carried = record { collation = None; is_written = false } }

abbrev pub id_out : Output
id_out = key_out (codes "rowid") false

-- a query of the rows of one tree that pass some tests, as it is drafted
abbrev pub finding : ℕ → List Term → List Term → Draft
finding tree tests project = record {
  from = inner tree end;
  filter = tests;
  group = None;
  project = project;
  distinct = false;
  collations = [];
  order = [];
  limit = lit (Int (negsuc 0));
  offset = lit (Int (pos 0));
}

-- and as it is run
abbrev pub found_query : ℕ → List Term → List Term → Query
found_query tree tests project = query_of (finding tree tests project)

abbrev draft : ℕ → List Output → Draft
draft tree outs = finding tree [] (map (λ (o : Output). o.term) outs)

abbrev names : List Output → List (List ℕ)
names outs = map (λ (o : Output). o.name) outs

abbrev pub whole_query : ℕ → List Output → Query
whole_query tree outs = found_query tree [] (map (λ (o : Output). o.term) outs)

abbrev pub found_program : ℕ → List Term → List Term → Program
found_program tree tests project = record { lets = []; body = found_query tree tests project }

-- the table is the first in its tree, which a query reads
pub record IsFirst (schema : Schema) (table : Table) : Type 0 where
  pub low : nat_le (2 ^ 31) table.tree ≡ false
  pub first : find (λ (t : Table). t.tree == table.tree) schema.tables ≡ Some table

-- its types are accepted, with these parameters
abbrev pub IsAccepted : Schema → ℕ → List Term → List Term → Row → Type 0
IsAccepted schema tree tests project params = let p = found_program tree tests project in accepts_program schema (lets_of p) p.body params ≡ true

-- what a core of one table and these columns is resolved to
pub record IsResolved (schema : Schema) (core : Core) (name : List ℕ) (at tree budget : ℕ) (outs : List Output) : Type 0 where
  pub bounds : bounds schema (out-Core core).from (fresh 1 max_budget) ≡ Ok (bounds_at name at, started)
  pub result : result lower (outermost schema) (record { tables = bounds_at name at; shown = [] }) core started ≡ Ok (outs, spent budget)
  pub joined : matching lower (outermost schema) (record { tables = bounds_at name at; shown = outs }) core (spent budget) ≡ Ok (record { steps = Inner tree ∷ []; filter = [] }, spent budget)

module _ (schema : Schema) (core : Core) (name : List ℕ) (at tree budget : ℕ) (outs : List Output) (it : IsResolved schema core name at tree budget outs)
    (no_group : (out-Core core).group ≡ []) (no_having : (out-Core core).having ≡ None) (no_distinct : (out-Core core).distinct ≡ false) where
  abbrev page_body : Body
  page_body = record { level = record { tables = bounds_at name at; shown = outs }; steps = Inner tree ∷ []; filter = [] }

  body_is : body lower (outermost schema) core (fresh 1 max_budget) ≡ Ok (page_body, spent budget)
  unfolding body
  body_is = rw (it.bounds, it.result, it.joined) refl

  abbrev clauses : Clauses
  clauses = record { body = page_body; is_grouped = false; keys = []; collations = []; having = []; order = [] }

  parts_are : parts schema core [] (fresh 1 max_budget) ≡ Ok (clauses, spent budget)
  unfolding parts keys having sorts tests
  parts_are = rw (body_is, no_group, no_having) refl

  -- so it is named
  pub named_is : named schema core [] no_page ≡ Ok (draft tree outs, names outs, map (λ (o : Output). o.carried.collation) outs)
  unfolding named assembled ungrouped
  named_is = rw (parts_are, no_distinct) refl

-- a text that shows the rowid and each column of a table of this shape
pub record IsSelect (sql : List ℕ) (shape : TableShape) : Type 0 where
  pub plain : IsPlainSelect sql
  pub unlisted : if_select (compiled listing_schema sql) ≡ Err NoSuchTable
  pub budget : ℕ
  pub outs : List Output
  pub resolved : (schema : Schema) (place : Place) (listed : Lists schema (made_at shape place)) → nat_lt place.tree (2 ^ 31) ≡ true → IsResolved schema (out-Select plain.s).first shape.name listed.at place.tree budget outs
  pub accepted : (schema : Schema) (place : Place) → IsFirst schema (made_at shape place) → IsAccepted schema place.tree [] (map (λ (o : Output). o.term) outs) []
  pub shows : (place : Place) (r : Row) → eval_all (map (λ (o : Output). o.term) outs) ([] ∷ r ∷ []) ≡ shown (made_at shape place) r

accepted : (b : Bool) (p : Program) (names : List (List ℕ)) (k : Command)
    → ◌≡◌ {A = Checked Command} (and_then (if b then Ok p else Err Mismatch) (λ p. Ok (command.Select p names))) (Ok k) → k ≡ command.Select p names
accepted true p names k h = cc
accepted false p names k h = absurd (cc)

module _ (sql : List ℕ) (shape : TableShape) (it : IsSelect sql shape) (schema : Schema) (place : Place) (listed : Lists schema (made_at shape place)) (low : nat_lt place.tree (2 ^ 31) ≡ true) where
  abbrev core : Core
  core = (out-Select it.plain.s).first

  abbrev pub whole_command : Command
  whole_command = command.Select (record { lets = []; body = whole_query place.tree it.outs }) (names it.outs)

  read_is : (k : Command) → command schema [] 0 (written.Select it.plain.s) ≡ Ok k → k ≡ whole_command
  unfolding command read program
  read_is k h = accepted _ _ _ k (rw (queried schema sql it.plain _ (named_is schema core shape.name listed.at place.tree it.budget it.outs (it.resolved schema place listed low) it.plain.no_group it.plain.no_having it.plain.no_distinct)) at h)

  -- the text means the query of the whole table
  pub select_means : Means schema sql whole_command sql
  unfolding returning timed
  select_means c h =
      let p = planned_of schema sql it.plain.p c it.unlisted it.plain.parsed h in
      let q = rw (it.plain.plain, it.plain.no_names, it.plain.statement) at p in
      let k = read_is q.1 q.3 in
      let none : q.0 ≡ None = let e = q.2 in cc in
      (ap (λ (it : Compiled). it.command) q.4 ∙ k, ap (λ (it : Compiled). it.returning) q.4 ∙ none, ap (λ (it : Compiled). it.formats) q.4, ap (text_of sql) q.4 ∙ it.plain.whole)

-- a query with no subqueries reads the trees as they are
pub no_overlay : (trees : Trees) (t : ℕ) → overlay trees [] t ≡ trees t
no_overlay trees t = by_bool (nat_le (2 ^ 31) t)
  where
    by_bool : (b : Bool) → unwrap_or (if b then slice_get [] (t - 2 ^ 31) else None) (trees t) ≡ trees t
    by_bool true = refl
    by_bool false = refl

-- the rows of a query that went through, whose text is that of a SELECT
pub unlisted_of : (schema : Schema) (sql : List ℕ) (c : Compiled) → compiled schema sql ≡ Ok c → reads_listing schema sql ≡ false
unlisted_of schema sql c h = rw h refl

-- what a text shows is the answer of the query that it means
pub reads_by : (sql : List ℕ) (params : Row) (old new : State) (rows : List Row) (k : Command) (text : List ℕ) → if_select (compiled listing_schema sql) ≡ Err NoSuchTable
    → Means old.now.schema sql k text → HasShown sql params old new rows → Reads k old.now params rows × IsUnchanged old new
unfolding HasShown
reads_by sql params old new rows k text unlisted means h =
    let is = means h.0 h.1.is in
    let plain = unlisted_of old.now.schema sql h.0 (compiled_of old.now.schema sql h.0 unlisted h.1.is) in
    let it = rw (is.1, is.2, append-nil params) at h.2 in
    let db : it.0 ≡ old.now = subst (λ b. IsSourceOf b old.now it.0) plain it.1 in
    (subst₂ (λ c d. Reads c d params rows) is.0 db it.2, it.3)

module _ (sql : List ℕ) (shape : TableShape) (it : IsSelect sql shape) where
  shows_each : (place : Place) (rows : List Row) → map (λ (o : Output'). o.1) (map (output (whole_query place.tree it.outs)) (map (λ (r : Row). [] ∷ r ∷ []) rows)) ≡ map (shown (made_at shape place)) rows
  shows_each place [] = refl
  shows_each place (r ∷ rows) = λ i. it.shows place r i ∷ shows_each place rows i

  pub answers : (db : Database) (place : Place) (rows : List Row) → Reads (command.Select (record { lets = []; body = whole_query place.tree it.outs }) (names it.outs)) db [] rows
      → IsPermutation (map (shown (made_at shape place)) (db.trees place.tree)) rows
  answers db place rows reads =
      let tree = place.tree in
      let q = whole_query tree it.outs in
      let a : IsAnswer q (overlay db.trees []) [] rows = reads.answer Null in
      let staged : a.staged ≡ map (λ (r : Row). [] ∷ r ∷ []) (db.trees tree) = a.grouped ∙ flat_map_single _ (overlay db.trees [] tree) ∙ ap (map (λ (r : Row). [] ∷ r ∷ [])) (no_overlay db.trees tree) in
      let kept : map (λ (o : Output'). o.1) a.kept ≡ map (shown (made_at shape place)) (db.trees tree) =
      ap (map (λ (o : Output'). o.1)) (a.distinct ∙ ap (map (output q)) staged) ∙ shows_each place (db.trees tree) in
      subst₂ IsPermutation kept (sym a.shown) (IsPermutation-map (λ (o : Output'). o.1) _ _ a.same)

  -- what the text shows of a table that is listed
  pub select_reads : (old new : State) (rows : List Row) (place : Place) → Lists old.now.schema (made_at shape place) → nat_lt place.tree (2 ^ 31) ≡ true → IsKeyed rows → HasShown sql [] old new rows
      → Stands (made_at shape) place (map (drop 1) rows) old.now × IsUnchanged old new
  select_reads old new rows place listed low keyed h =
      let both = reads_by sql [] old new rows _ sql it.unlisted (select_means sql shape it old.now.schema place listed low) h in
      let here = old.now.trees place.tree in
      let same : IsPermutation rows (map (shown (made_at shape place)) here) = IsPermutation-sym _ _ (answers old.now place rows both.0) in (
        record {
          listed = listed;
          keyed = keyed_by_ids (shown (made_at shape place)) (λ r. refl) here rows same keyed;
          holds = subst (IsPermutation (map (drop 1) rows)) (map-map (drop 1) (shown (made_at shape place)) here) (IsPermutation-map (drop 1) _ _ same);
        },
        both.1,
      )

  -- the text has no RETURNING
  pub no_returning : (schema : Schema) (c : Compiled) → understood schema sql ≡ Ok c → c.returning ≡ None
  unfolding returning timed
  no_returning schema c is =
      let p = planned_of schema sql it.plain.p c it.unlisted it.plain.parsed is in
      let q = rw (it.plain.plain, it.plain.no_names, it.plain.statement) at p in
      let none : q.0 ≡ None = let e = q.2 in cc in
      ap (λ (it : Compiled). it.returning) q.4 ∙ none

  -- rows that are shown change nothing
  select_unchanged : (old new : State) (rows : List Row) → HasShown sql [] old new rows → IsUnchanged old new
  unfolding HasShown
  select_unchanged old new rows h =
      let seen = rw (no_returning old.now.schema h.0 h.1.is) at h.2 in
      seen.3

  -- the same of a call that answers them in another order
  pub read_shows : (old new : State) (seen rows : List Row) → IsPermutation seen rows → IsKeyed rows → HasShown sql [] old new seen → Shows (made_at shape) rows old new
  read_shows old new seen rows same keyed shown = record {
    same = select_unchanged old new seen shown;
    stands = λ place listed low.
        let stood = (select_reads old new seen place listed low (keyed_permuted rows seen (IsPermutation-sym _ _ same) keyed) shown).0 in
        record { listed = stood.listed; keyed = stood.keyed; holds = IsPermutation-trans _ _ _ (IsPermutation-sym _ _ (IsPermutation-map (drop 1) _ _ same)) stood.holds };
  }

  -- the text commits nothing
  pub select_commits : (old : State) (params : Row) (db : Trees) → CommitsShowing sql params old db → ⊥
  unfolding CommitsShowing
  select_commits old params db h = absurd (let f = rw (no_returning old.now.schema h.0 h.1.is) at h.2 in cc)

  -- the text changes nothing
  pub select_rests : (old new : State) → RanQuery sql old new → Rests old new
  unfolding FailsToQuery
  select_rests old new (inl (rows, h)) = unchanged_rests old new (select_unchanged old new rows h)
  select_rests old new (inr (e, inl h)) = not_run_rests old new sql [] e h
  select_rests old new (inr (e, inr h)) =
      let seen = rw (no_returning old.now.schema h.0 h.1.is) at h.2 in
      unchanged_rests old new seen.3
