-- An edit whose rows suit their table is refused for nothing but its rowids and its sizes: they share no key and have their parents, and
-- whoever refers to a row that goes refers to one that comes.
use Rattle.sql_tables.proofs.Common.{◌≡◌, ◌≢◌, ◌⊎◌, inl, inr, ℕ, Bool, List, ap, length, nat_lt, Option, None, Some, true, false, refl, sym, subst, ◌∙◌, list_all, list_any, both_ways, cases_eq, ne_eqb, or_cases, or_left, or_right, Decides-eqb, Row, Table, Trees, IsAscending, rowid, with_tree, Applies, Edit, IsRefused, IsOversized, are_fresh, edited, have_rowids, id_in, left_by, Database, fits_i64, Reference, Enforced, All, Obeys, ParentKey, Refers, agree, has_null, has_parent, is_held, parent_key, references_fit, Refusal, Has, PassAlone, all_has, some_has, some_from, put_all_adds, put_all_has, put_all_keeps, without_all_has, Turns, origin, refers_from, refers_same, unique_kept, refers_at, IsRefusedIn}
use Rattle.sqlite_schema.specs.declared.schema.Constraint.TheVariants.{Datatype, NotNull, Check, PrimaryKey, Unique, ForeignKey}
use Rattle.sqlite_rules.specs.declared.error.Refusal.TheVariants.{Violates, Mismatch, NoRowid, BadReference, TooDeep}
use Rattle.sqlite_rules.specs.Keys.{are_unique}

module _ (db : Database) (edit : Edit) where
  abbrev here : List Row
  here = db.trees edit.table.tree

  -- the trees with the rows of the edit
  abbrev pub after : Trees
  after = with_tree db.trees edit.table.tree (edited db.trees edit)

  here_is : after edit.table.tree ≡ edited db.trees edit
  here_is = rw ((Decides-eqb edit.table.tree edit.table.tree).1 refl) refl

  there_is : (n : ℕ) → n ≢ edit.table.tree → after n ≡ db.trees n
  there_is n other = rw (ne_eqb n edit.table.tree other) refl

  -- each is new, or stays
  pub now_has : (r : Row) → Has (after edit.table.tree) r → Has edit.news r ⊎ Has (left_by db.trees edit) r
  now_has r there = put_all_has edit.news (left_by db.trees edit) r (subst (λ all. Has all r) here_is there)

module _ (db : Database) (edit : Edit) (olds : List Row) where
  abbrev grown : Trees
  grown = after db edit

  -- whoever refers to one of the old rows refers to a new one
  abbrev pub AreReplaced : Type 0
  AreReplaced = (t : Table) (ref : Reference) (key : ParentKey) → Has db.schema.tables t → Has t.references ref
      → parent_key db.schema.tables ref ≡ Some key → key.0 ≡ edit.table.tree → (old row : Row) → Has olds old
      → agree key.2 key.1 old ref.columns row ≡ true → (new : Row) × Has edit.news new × (agree key.2 key.1 new ref.columns row ≡ true)

  -- the rows that come suit the table, and no row refers to one that goes
  pub record Suits : Type 0 where
    pub obeys : Obeys db.schema db.trees
    pub apart : IsAscending (λ a b. a.tree ≡ b.tree → ⊥) db.schema.tables
    pub listed : Has db.schema.tables edit.table
    pub alone : PassAlone edit.table edit.news
    pub keyed : have_rowids edit.news ≡ true
    pub fresh : are_fresh (left_by db.trees edit) edit.news ≡ true
    pub keys : references_fit db.schema edit.table (nat_lt 0 (length edit.news)) (nat_lt 0 (length edit.gone)) ≡ true
    pub unshared : are_unique db.schema.indexes grown edit.table edit.news ≡ true
    pub split : (r : Row) → Has (here db edit) r → Has (left_by db.trees edit) r ⊎ Has olds r
    pub parents : (ref : Reference) (row : Row) → Has edit.table.references ref → Has edit.news row → has_parent db.schema.tables db.trees row ref ≡ true
    pub replaced : AreReplaced

  module _ (it : Suits) where
    turns : Turns db.schema db.trees grown edit.table (left_by db.trees edit) olds edit.news
    turns = record {
      apart = it.apart;
      listed = it.listed;
      others = λ t known other. there_is db edit t.tree other;
      from = now_has db edit;
      stays = λ r left. subst (λ all. Has all r) (sym (here_is db edit)) (put_all_keeps edit.news (left_by db.trees edit) r it.fresh left);
      added = λ r new. subst (λ all. Has all r) (sym (here_is db edit)) (put_all_adds edit.news (left_by db.trees edit) r it.fresh new);
      was = λ r left. without_all_has edit.gone (here db edit) r left;
      split = it.split;
    }

    held_still : (t : Table) (row : Row) (ref : Reference) (key : Option ParentKey) → Has db.schema.tables t → Has t.references ref
        → parent_key db.schema.tables ref ≡ key → is_held db.trees ref.columns row key ≡ true → is_held grown ref.columns row key ≡ true
    held_still t row ref None known of is h = absurd (cc)
    held_still t row ref (Some key) known of is h =
        let test : Row → Bool = λ p. agree key.2 key.1 p ref.columns row in
        elim (cases_eq key.0 edit.table.tree) [
          | inr other ↦ ap (list_any test) (there_is db edit key.0 other) ∙ h
          | inl one ↦
              let held = some_has test (here db edit) (subst (λ n. list_any test (db.trees n) ≡ true) one h) in
              subst (λ n. list_any test (grown n) ≡ true) (sym one) (elim (it.split held.0 held.1) [
                | inl left ↦ some_from test (grown edit.table.tree) held.0 (turns.stays held.0 left) held.2
                | inr gone ↦
                    let new = it.replaced t ref key known of is one held.0 row gone held.2 in
                    some_from test (grown edit.table.tree) new.0 (turns.added new.0 new.1) new.2
              ])
        ]

    parent_still : (t : Table) (row : Row) (ref : Reference) → Has db.schema.tables t → Has t.references ref
        → has_parent db.schema.tables db.trees row ref ≡ true → has_parent db.schema.tables grown row ref ≡ true
    parent_still t row ref known of h = elim (or_cases (has_null ref.columns row) _ h) [
      | inl null ↦ or_left _ _ null
      | inr held ↦ or_right _ _ (held_still t row ref (parent_key db.schema.tables ref) known of refl held)
    ]

    refers : Refers All db.schema grown
    refers = refers_from All db.schema grown (λ t ref row known of is there. parent_still t row ref known of
        (elim (origin db.schema db.trees grown edit.table (left_by db.trees edit) olds edit.news turns t row known there) [
          | inl new ↦ it.parents ref row (subst (λ (t : Table). Has t.references ref) new.0 of) new.1
          | inr old ↦ refers_at All db.schema db.trees t row ref (it.obeys.rules ForeignKey) known old of refl
        ]))

    refused : (why : Refusal) → IsRefused db.schema Enforced db.trees edit why → list_all (λ r. fits_i64 (id_in (rowid r))) edit.news ≡ false
    refused (Violates Datatype) h = absurd (both_ways _ h it.alone.typed)
    refused (Violates NotNull) h = absurd (both_ways _ h it.alone.present)
    refused (Violates Check) h = absurd (both_ways _ h it.alone.checked)
    refused (Violates PrimaryKey) h = absurd (both_ways _ h it.fresh)
    refused (Violates Unique) h =
        absurd (h (unique_kept db.schema db.trees grown edit.table (left_by db.trees edit) olds edit.news turns it.unshared (it.obeys.rules Unique)))
    refused (Violates ForeignKey) h = absurd h
    refused Mismatch h = absurd (both_ways _ h it.keyed)
    refused NoRowid h = h
    refused BadReference h = absurd (both_ways _ h it.keys)
    refused TooDeep h = absurd h

    same_after : (next : Trees) → Applies db.schema Enforced db.trees edit next → (t : Table) → Has db.schema.tables t → next t.tree ≡ grown t.tree
    same_after next made t known = elim (cases_eq t.tree edit.table.tree) [
      | inl same ↦ subst (λ n. next n ≡ grown n) (sym same) (made.rows ∙ sym (here_is db edit))
      | inr other ↦ all_has _ db.schema.tables t made.tables known other ∙ sym (there_is db edit t.tree other)
    ]

    pub suits : IsRefusedIn db edit
        → (list_all (λ r. fits_i64 (id_in (rowid r))) edit.news ≡ false) ⊎ ((row : Row) × Has edit.news row × IsOversized db.schema edit.table row)
    suits (inl (why, h)) = inl (refused why h)
    suits (inr (inl big)) = inr big
    suits (inr (inr (next, made, lacks))) = absurd (lacks (refers_same All db.schema grown next (same_after next made) refers))
