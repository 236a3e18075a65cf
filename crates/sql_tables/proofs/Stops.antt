-- Where a write stops that sets off no action, and that no limit of steps ends: at its one edit.
use Rattle.std.proofs.Common.{Any}
use Rattle.sql_tables.proofs.Common.{Error, Row, Schema, Table, Term, Trees, Command, Insert, Update, Delete, Values, Edit, edit_of, taken_by, Given, Database, Answers, value_rows, Task, Written, Queried, Sourced, Inserts, Updates, Deletes, Does, Concludes, OnRows, WritesRows, accepts_program, accepts_terms, Program, Enforced, lets_of, Refers, Leads, Writes, works, ids_of, one_step, IsRefusedIn, plain_mode, ◌≡◌, inl, inr, ℕ, zero, suc, ◌/◌, List, [], ◌∷◌, ◌++◌, Option, Some, None, Ok, Err, true, sym, ap, subst, ◌∙◌, append-nil, length, length-append, slice_get, arith, All, Refusal}
use Rattle.sqlite_sql.specs.Program.{ProgramOverflows}
use Rattle.sql_tables.proofs.SelectAll.{found_program}
use Rattle.sql_tables.proofs.InsertKeyed.{insert_edit, no_works, went, same_value}
use Rattle.sql_tables.proofs.Places.{untimed}

module _ (schema : Schema) (db : Trees) (edit : Edit) (quiet : works schema Enforced 0 edit.table.tree (taken_by db edit) edit.news ≡ []) where
  -- an edit that sets off no action and is refused
  edit_stops : (why : Option Refusal) → Writes schema Enforced db edit (Err why) → IsRefusedIn (record { schema = schema; trees = db }) edit
  edit_stops why (inl (r, refused, same)) = inl (r, refused)
  edit_stops why (inr (inl (row, among, big, same))) = inr (inl (row, among, big))
  edit_stops why (inr (inr went)) = absurd (ends went.2.0 (rw quiet at went.2.1))
    where
      ends : (n : ℕ) → Leads schema Enforced n went.0 [] (Err why) → ⊥
      ends zero h = let e = h.1 in cc
      ends (suc n) h = omega (arith, ap length h.2, length-append h.0 (h.1 ∷ []))

  -- or leaves a row that lacks its parent
  edit_lacks : (next : Trees) → Writes schema Enforced db edit (Ok next) → (Refers All schema next → ⊥) → IsRefusedIn (record { schema = schema; trees = db }) edit
  edit_lacks next made lacks = inr (inr (next, one_step schema Enforced db next edit quiet made, lacks))

module _ (task : Task) (k : Command) (db : Trees) (P : Type 0) (stops : (stop : Option Error) → WritesRows task db k (Err stop) → P)
    (lacks : (w : Written) → WritesRows task db k (Ok w) → (Refers All task.schema w.trees → ⊥) → P) where
  tested_stop : (w : Written) (stop : Option Error) → Concludes task plain_mode None w (Err stop) → (Refers All task.schema w.trees → ⊥)
  tested_stop w stop (inl (s, tested, same)) = tested.0
  tested_stop w stop (inr (doubt, ok, inl (s, none, same))) = absurd (cc)
  tested_stop w stop (inr (doubt, ok, inr (rows, shown, same))) = absurd (cc)

  -- a write on rows stops while they are written, or where a row lacks its parent then
  on_rows : (stop : Option Error) → OnRows task plain_mode None k db (Err stop) → P
  on_rows stop (inl (s, none, same)) = stops s none
  on_rows stop (inr (w, done, concludes)) = lacks w done (tested_stop w stop concludes)

-- ---- a row more

module _ (params : Row) (db : Database) (text : List ℕ) (at : ℕ) (table : Table) (terms : List Term) (width : ℕ)
    (there : slice_get db.schema.tables at ≡ Some (untimed table)) (typed : accepts_terms terms params ≡ true) where
  abbrev Stopped : Type 0
  Stopped = IsRefusedIn db (insert_edit db (untimed table) (value_rows params width (length terms / width) terms))

  abbrev task : Task
  task = record { limit = None; keys = Enforced; schema = db.schema; table = untimed table; params = params }

  rows_are : (rows : List Row) → rows ≡ value_rows (params ++ []) width (length terms / width) terms → rows ≡ value_rows params width (length terms / width) terms
  rows_are rows h = h ∙ ap (λ p. value_rows p width (length terms / width) terms) (append-nil params)

  no_source : (stop : Option Error) → Sourced None db (params ++ []) (Values terms width) (Err stop) → ⊥
  no_source None h = h
  no_source (Some e) (inl h) = let bad = sym h.1 ∙ ap (accepts_terms terms) (append-nil params) ∙ typed in cc
  no_source (Some e) (inr h) = let bad = h.1 in cc

  for_rows : (rows : List Row) → rows ≡ value_rows (params ++ []) width (length terms / width) terms → IsRefusedIn db (insert_edit db (untimed table) rows) → Stopped
  for_rows rows is = subst (λ all. IsRefusedIn db (insert_edit db (untimed table) all)) (rows_are rows is)

  quiet : (rows : List Row) → works db.schema Enforced 0 table.tree [] (insert_edit db (untimed table) rows).news ≡ []
  quiet rows = no_works db.schema Enforced 0 table.tree (insert_edit db (untimed table) rows).news

  inserts_stop : (stop : Option Error) → Inserts task (Values terms width) db.trees (Err stop) → Stopped
  inserts_stop stop (inl (s, none, same)) = absurd (no_source s none)
  inserts_stop stop (inr (rows, source, inl (s, none, same))) = absurd (cc)
  inserts_stop stop (inr (rows, source, inr (counter, counted, inl (s, edited, same)))) = for_rows rows source.1 (edit_stops db.schema db.trees (insert_edit db (untimed table) rows) (quiet rows) edited.0 edited.1)
  inserts_stop stop (inr (rows, source, inr (counter, counted, inr (mid, made, inl (s, none, same))))) = absurd (cc)
  inserts_stop stop (inr (rows, source, inr (counter, counted, inr (mid, made, inr (next, ok, same))))) = absurd (cc)

  inserts_lack : (w : Written) → Inserts task (Values terms width) db.trees (Ok w) → (Refers All db.schema w.trees → ⊥) → Stopped
  inserts_lack w done lacks =
      let given = went done in
      let written = went (went given.2).2 in
      let counted = went written.2 in
      let trees : w.trees ≡ written.0 = ap (λ (it : Written). it.trees) (same_value counted.2) ∙ same_value counted.1 in
      for_rows given.0 given.1.1 (edit_lacks db.schema db.trees (insert_edit db (untimed table) given.0) (quiet given.0) written.0 written.1 (λ refers. lacks (subst (Refers All db.schema) (sym trees) refers)))

  -- an INSERT stops at its one edit
  pub insert_stops : (stop : Option Error) → Does None plain_mode params db text None (Insert at (Values terms width)) (Err stop) → Stopped
  insert_stops stop h = on_rows task (Insert at (Values terms width)) db.trees Stopped inserts_stop inserts_lack stop (rw there at h)

-- ---- rows that are found are replaced or taken out

module _ (tree : ℕ) (tests project : List Term) (db : Database) (params : Row) (typed : let p = found_program tree tests project in accepts_program db.schema (lets_of p) p.body params ≡ true) where
  never : {X : Type 0} (xs : List X) → Any (λ (_ : X). ⊥) xs → ⊥
  never xs any = any.4

  sums_none : ProgramOverflows db.trees params [] (lets_of (found_program tree tests project)) (found_program tree tests project).body → ⊥
  sums_none (inl none) = none
  sums_none (inr any) = never _ any

  -- the query answers
  pub no_query : (stop : Option Error) → Queried None db (found_program tree tests project) params (Err stop) → ⊥
  no_query None h = h
  no_query (Some e) (inl h) = let bad = sym h.1 ∙ typed in cc
  no_query (Some e) (inr (inl h)) = sums_none h.1
  no_query (Some e) (inr (inr h)) = let bad = h.1 in cc

module _ (params : Row) (db : Database) (text : List ℕ) (at : ℕ) (table : Table) (tree : ℕ) (tests project : List Term)
    (there : slice_get db.schema.tables at ≡ Some table) (inert : (olds news : List Row) → works db.schema Enforced 0 table.tree olds news ≡ [])
    (typed : let p = found_program tree tests project in accepts_program db.schema (lets_of p) p.body params ≡ true) where
  abbrev q : Program
  q = found_program tree tests project

  abbrev tasked : Task
  tasked = record { limit = None; keys = Enforced; schema = db.schema; table = table; params = params }

  -- the edit of some rows that the query answers is stopped
  abbrev pub FoundStopped : (List Row → Edit) → Type 0
  FoundStopped edit = (rows : List Row) × Answers db q params rows × IsRefusedIn db (edit rows)

  abbrev setting : List Row → Edit
  setting rows = edit_of db.trees table (ids_of rows) Given 1 rows

  abbrev leaving : List Row → Edit
  leaving rows = edit_of db.trees table (ids_of rows) Given 0 []

  updates_stop : (stop : Option Error) → Updates tasked q params db.trees (Err stop) → FoundStopped setting
  updates_stop stop (inl (s, none, same)) = absurd (no_query tree tests project db params typed s none)
  updates_stop stop (inr (rows, answers, inl (s, edited, same))) = (rows, answers, edit_stops db.schema db.trees (setting rows) (inert _ _) edited.0 edited.1)
  updates_stop stop (inr (rows, answers, inr (next, made, same))) = absurd (cc)

  updates_lack : (w : Written) → Updates tasked q params db.trees (Ok w) → (Refers All db.schema w.trees → ⊥) → FoundStopped setting
  updates_lack w done lacks =
      let given = went done in
      let edited = went given.2 in
      let trees : w.trees ≡ edited.0 = ap (λ (it : Written). it.trees) (same_value edited.2) in
      (given.0, given.1, edit_lacks db.schema db.trees (setting given.0) (inert _ _) edited.0 edited.1 (λ refers. lacks (subst (Refers All db.schema) (sym trees) refers)))

  -- an UPDATE stops at its one edit
  pub update_stops : (stop : Option Error) → Does None plain_mode params db text None (Update at q) (Err stop) → FoundStopped setting
  update_stops stop h = on_rows tasked (Update at q) db.trees (FoundStopped setting) updates_stop updates_lack stop (rw there at h)

  deletes_stop : (stop : Option Error) → Deletes tasked q db.trees (Err stop) → FoundStopped leaving
  deletes_stop stop (inl (s, none, same)) = absurd (no_query tree tests project db params typed s none)
  deletes_stop stop (inr (rows, answers, inl (s, edited, same))) = (rows, answers, edit_stops db.schema db.trees (leaving rows) (inert (taken_by db.trees (leaving rows)) []) edited.0 edited.1)
  deletes_stop stop (inr (rows, answers, inr (next, made, same))) = absurd (cc)

  deletes_lack : (w : Written) → Deletes tasked q db.trees (Ok w) → (Refers All db.schema w.trees → ⊥) → FoundStopped leaving
  deletes_lack w done lacks =
      let given = went done in
      let edited = went given.2 in
      let trees : w.trees ≡ edited.0 = ap (λ (it : Written). it.trees) (same_value edited.2) in
      (given.0, given.1, edit_lacks db.schema db.trees (leaving given.0) (inert (taken_by db.trees (leaving given.0)) []) edited.0 edited.1 (λ refers. lacks (subst (Refers All db.schema) (sym trees) refers)))

  -- so does a DELETE
  pub delete_stops : (stop : Option Error) → Does None plain_mode params db text None (Delete at q) (Err stop) → FoundStopped leaving
  delete_stops stop h = on_rows tasked (Delete at q) db.trees (FoundStopped leaving) deletes_stop deletes_lack stop (rw there at h)
