-- What an INSERT of one row does to a table with no rowid of its own.
use Rattle.sql_tables.proofs.Common.{flat_map, filter_map, Schema, Table, Row, Term, Values, Insert, Edit, edit_of, Applies, Chosen, Database, value_rows, Written, Tally, Does, Mode, Reference, ParentKey, parent_key, Deed, works, work_by, deed_for, one_step, ◌≡◌, ◌⊎◌, inl, inr, ℕ, ◌/◌, List, [], ◌∷◌, slice_get, Option, Some, None, Ok, Err, Result, refl, sym, ap, subst, append-nil, ◌∙◌, false, true, Bool, length, ◌&&◌, ◌==◌}
use Rattle.sqlite_schema.specs.declared.schema.Keys.{Keys}
use Rattle.sql_tables.proofs.Places.{untimed}

-- a call that answered went on
pub went : {B E R : Type 0} {b : B} {Stops : E → Type 0} → ((stop : E) × Stops stop × (Ok b ≡ Err stop)) ⊎ R → R
went (inl stopped) = absurd (let e = stopped.2 in cc)
went (inr on) = on

-- two answers that are one have one value
pub same_value : {B E : Type 0} {a b : B} → ◌≡◌ {A = Result B E} (Ok a) (Ok b) → a ≡ b
same_value e = cc

and_false : (b : Bool) → (b && false) ≡ false
and_false true = refl
and_false false = refl

work_none : (depth tree : ℕ) (child : Table) (ref : Reference) (deed : Option Deed) (key : Option ParentKey) → work_by depth tree [] child ref deed key ≡ None
work_none depth tree child ref None key = refl
work_none depth tree child ref (Some deed) None = refl
work_none depth tree child ref (Some deed) (Some key) = rw (and_false (key.0 == tree)) refl

none_of : {X Y : Type 0} (h : X → Option Y) → ((x : X) → h x ≡ None) → (xs : List X) → filter_map h xs ≡ []
none_of h none [] = refl
none_of h none (x ∷ xs) = rw (none x) (none_of h none xs)

nil_of : {X Y : Type 0} (h : X → List Y) → ((x : X) → h x ≡ []) → (xs : List X) → flat_map h xs ≡ []
nil_of h none [] = refl
nil_of h none (x ∷ xs) = rw (none x) (nil_of h none xs)

-- where no row is taken out, no foreign key acts
pub no_works : (schema : Schema) (keys : Keys) (depth tree : ℕ) (news : List Row) → works schema keys depth tree [] news ≡ []
no_works schema keys depth tree news =
    nil_of _ (λ child. none_of _ (λ ref. work_none depth tree child ref (deed_for keys (length news == 0) ref) (parent_key schema.tables ref)) child.references) schema.tables

-- the edit of an INSERT of these rows
abbrev pub insert_edit : Database → Table → List Row → Edit
insert_edit db table rows = edit_of db.trees table [] Chosen 0 rows

-- what an INSERT does where no foreign key acts
pub insert_does : (limit : Option ℕ) (mode : Mode) (params : Row) (db after : Database) (text : List ℕ) (at : ℕ) (table : Table) (terms : List Term) (width : ℕ) (tally : Tally)
    → slice_get db.schema.tables at ≡ Some (untimed table)
    → Does limit mode params db text None (Insert at (Values terms width)) (Ok (tally, after))
    → (after.schema ≡ db.schema) × Applies db.schema mode.keys db.trees (insert_edit db (untimed table) (value_rows params width (length terms / width) terms)) after.trees
insert_does limit mode params db after text at table terms width tally there h =
    let done = went (rw there at h) in
    let now = ap (λ (p : Tally × Database). p.1) (same_value (went (went done.2).2).2) in
    let given = went done.1 in
    let written = went (went given.2).2 in
    let counted = went written.2 in
    let trees : done.0.trees ≡ written.0 = ap (λ (it : Written). it.trees) (same_value counted.2) ∙ same_value counted.1 in
    let rows : given.0 ≡ value_rows params width (length terms / width) terms = given.1.1 ∙ ap (λ p. value_rows p width (length terms / width) terms) (append-nil params) in
    let edit = edit_of db.trees (untimed table) [] Chosen 0 given.0 in
    let made : Applies db.schema mode.keys db.trees edit written.0 = one_step db.schema mode.keys db.trees written.0 edit (no_works db.schema mode.keys 0 table.tree edit.news) written.1 in
    let late : Applies db.schema mode.keys db.trees edit after.trees =
    subst (Applies db.schema mode.keys db.trees edit) (sym (ap (λ (d : Database). d.trees) now ∙ trees)) made in
    (ap (λ (d : Database). d.schema) now, subst (λ all. Applies db.schema mode.keys db.trees (insert_edit db (untimed table) all) after.trees) rows late)
