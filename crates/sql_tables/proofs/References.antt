-- The references of tables of ours: to which keys they are, and that each is to one.
use Rattle.sql_tables.proofs.Common.{◌≡◌, inl, inr, ℕ, List, [], ◌∷◌, not, codes, map, find, slice_get, slice_index_or, Some, None, Bool, true, false, refl, sym, ap, subst, ◌∙◌, cond, unwrap_or, length, nat_lt, ⊤, AllByRecursion, position_or_len, list_any, position_from, find_at, and_from, cases_Bool, or_right, or_left, Decides-eqb, Row, Schema, AnyTable, Trees, Database, IsDatabase, plain, same_name, Reference, ParentKey, agree, has_null, has_parent, is_index_for, is_key_if_to, is_key_of, parent_key, references_fit, is_unique_key, IsSound, automatic, Has, all_has, has_got, some_from, test_from, named_parent, Ours as Table, Edition, Supervisor, Project, Student, Round, OldChoice, OldPlacement, RoundAim, Choice, Placement, all_tables, Lists, made_here, referring, shape_of, IsOurs}
use Rattle.std.proofs.Common.{bytes_eq}
use Rattle.std.proofs.lemmas.Iterator.Adapters.{position_from-zero}
use Rattle.sqlite_tied.specs.Compute.{everything}
use Rattle.sqlite_value.specs.Keys.{first_key, joined}
use Rattle.sqlite_rules.proofs.ProbeLemmas.{has_mapped}
use Rattle.sqlite_rules.proofs.RuleLemmas.{same_table}

-- ---- a table by its name

abbrev of_name : List ℕ → Table
of_name name = unwrap_or (find (λ t. bytes_eq (shape_of t).name name) all_tables) Edition

named_so : (table : Table) → of_name (shape_of table).name ≡ table
named_so Edition = refl
named_so _ = refl

pub same_named : (a b : Table) → (shape_of a).name ≡ (shape_of b).name → a ≡ b
same_named a b same = sym (named_so a) ∙ ap of_name same ∙ named_so b

-- ---- which column of a table names a row of which other

-- rows of these tables are named, by the first column
abbrev pub IsParent : Table → Type 0
IsParent Supervisor = ⊤
IsParent Project = ⊤
IsParent Student = ⊤
IsParent Round = ⊤
IsParent _ = ⊥

abbrev key_name : Table → List ℕ
key_name Round = codes "number"
key_name _ = codes "code"

-- the columns that name rows, counted as SQL has them, and of which tables
abbrev pub links_of : Table → List (ℕ × Table)
links_of Project = (3, Supervisor) ∷ []
links_of OldChoice = (1, Round) ∷ (2, Student) ∷ (4, Project) ∷ []
links_of OldPlacement = (1, Student) ∷ (2, Round) ∷ (3, Project) ∷ []
links_of RoundAim = (0, Round) ∷ []
links_of Choice = (1, Round) ∷ (2, Student) ∷ (4, Project) ∷ []
links_of Placement = (1, Student) ∷ (2, Round) ∷ (3, Project) ∷ []
links_of _ = []

abbrev link_to : ℕ × Table → ℕ × List ℕ × List ℕ
link_to l = (l.0, (shape_of l.1).name, key_name l.1)

-- the reference of a column
abbrev pub link : ℕ × Table → Reference
link l = referring false (link_to l)

references_are : (table : Table) (tree : ℕ) → (made_here table tree).references ≡ map link (links_of table)
references_are Edition tree = refl
references_are _ tree = refl

are_parents : (table : Table) → AllByRecursion (λ l. IsParent l.1) (links_of table)
are_parents Project = (tt, tt)
are_parents OldChoice = (tt, (tt, (tt, tt)))
are_parents OldPlacement = (tt, (tt, (tt, tt)))
are_parents RoundAim = (tt, tt)
are_parents Choice = (tt, (tt, (tt, tt)))
are_parents Placement = (tt, (tt, (tt, tt)))
are_parents _ = tt

pub to_parents : (table : Table) (l : ℕ × Table) → Has (links_of table) l → IsParent l.1
to_parents table l of = all_has _ (links_of table) l (are_parents table) of

-- each reference of a table of ours is that of a column
pub linked : (table : Table) (tree : ℕ) (ref : Reference) → Has (made_here table tree).references ref
    → (l : ℕ × Table) × Has (links_of table) l × (ref ≡ link l)
linked table tree ref of = has_mapped link (links_of table) ref (subst (λ refs. Has refs ref) (references_are table tree) of)

-- ---- a table that is listed by its name is the one that a reference to the name finds

found : {X : Type 0} (p : X → Bool) (xs : List X) (at : ℕ) (x : X) → position_from p 0 xs ≡ Some at → slice_get xs at ≡ Some x → find p xs ≡ Some x
found p xs at x named there = go (nat_lt (position_or_len p xs) (length xs)) (position_from-zero p xs ∙ named)
  where
    go : (b : Bool) → cond b (Some (position_or_len p xs)) None ≡ Some at → find p xs ≡ Some x
    go true is = let same : position_or_len p xs ≡ at = cc in find_at p xs ∙ ap (slice_get xs) same ∙ there
    go false is = absurd (cc)

named : (schema : Schema) (table : Table) (tree : ℕ) → Lists schema (made_here table tree)
    → find (λ (t : AnyTable). same_name t.name (shape_of table).name) schema.tables ≡ Some (made_here table tree)
named schema table tree listed =
    found (λ (t : AnyTable). same_name t.name (shape_of table).name) schema.tables listed.at (made_here table tree) listed.named listed.there

-- ---- the key that a reference is to

abbrev key_by : AnyTable → ParentKey
key_by t = (t.tree, t.primary, plain)

-- the key of a table whose rows are named
abbrev pub key_of : Table → ℕ → ParentKey
key_of table tree = key_by (made_here table tree)

pub key_is : (schema : Schema) (tree column : ℕ) (table : Table) → IsParent table → Lists schema (made_here table tree)
    → parent_key schema.tables (link (column, table)) ≡ Some (key_of table tree)
unfolding everything first_key joined
key_is schema tree column Supervisor is listed = rw (named schema Supervisor tree listed) refl
key_is schema tree column Project is listed = rw (named schema Project tree listed) refl
key_is schema tree column Student is listed = rw (named schema Student tree listed) refl
key_is schema tree column Round is listed = rw (named schema Round tree listed) refl
key_is schema tree column _ is listed = absurd is

-- a column that is the table's first key is indexed
text_index : (schema : Schema) (trees : Trees) (t : AnyTable) → IsSound schema trees → Lists schema t
    → slice_get t.uniques 0 ≡ Some (1 ∷ []) → slice_index_or t.orders 0 plain ≡ plain
    → list_any (is_index_for (t.tree, 1 ∷ [], plain)) schema.indexes ≡ true
unfolding first_key
text_index schema trees t sound listed first order =
    let guard = all_has _ schema.tables t sound.lists.guarded (has_got schema.tables listed.at t listed.there) 0 (1 ∷ []) first in
    some_from (is_index_for (t.tree, 1 ∷ [], plain)) schema.indexes (automatic t 0 (1 ∷ []) guard.0) guard.1
    (rw ((Decides-eqb t.tree t.tree).1 refl, order) refl)

module _ (db : Database) (sound : IsDatabase db) (ours : IsOurs db) (trees : Table → ℕ)
    (parents : (table : Table) → IsParent table → Lists db.schema (made_here table (trees table))) where
  indexed : (table : Table) → IsParent table → is_unique_key db.schema.indexes 1 (Some (key_of table (trees table))) ≡ true
  indexed Supervisor is = text_index db.schema db.trees _ sound (parents Supervisor is) refl refl
  indexed Project is = text_index db.schema db.trees _ sound (parents Project is) refl refl
  indexed Student is = text_index db.schema db.trees _ sound (parents Student is) refl refl
  indexed Round is = refl
  indexed _ is = absurd is

  -- each reference of ours is to a key
  is_key : (table : Table) (tree : ℕ) (ref : Reference) → Has (made_here table tree).references ref → is_key_of db.schema ref ≡ true
  is_key table tree ref of =
      let l = linked table tree ref of in
      let other = l.0.1 in
      let is = to_parents table l.0 l.1 in
      subst (λ r. is_key_of db.schema r ≡ true) (sym l.2) (rw (key_is db.schema (trees other) l.0.0 other is (parents other is)) (indexed other is))

  -- so are those of a table of ours, and those to it
  pub keys_fit : (table : Table) (tree : ℕ) (adds removes : Bool) → references_fit db.schema (made_here table tree) adds removes ≡ true
  keys_fit table tree adds removes = and_from _ _
      (or_right (not adds) _ (test_from (is_key_of db.schema) (made_here table tree).references (is_key table tree)))
      (or_right (not removes) _ (test_from _ db.schema.tables (λ t known. test_from (is_key_if_to db.schema (made_here table tree)) t.references (λ ref of.
      elim (cases_Bool (same_name (shape_of table).name ref.parent)) [
        | inl same ↦
            let o = ours.referred t ref table known of same in
            or_right _ _ (is_key o.0 t.tree ref (subst (λ (t : AnyTable). Has t.references ref) o.1 of))
        | inr other ↦ or_left _ _ (ap not other)
      ]))))

  -- a row that is named is a parent
  pub is_parent : (column : ℕ) (table : Table) → IsParent table → (row p : Row) → Has (db.trees (trees table)) p
      → agree plain (shape_of table).primary p (column ∷ []) row ≡ true
      → has_parent db.schema.tables db.trees row (link (column, table)) ≡ true
  is_parent column table is row p there same = or_right (has_null (column ∷ []) row) _
      (rw (key_is db.schema (trees table) column table is (parents table is))
      (some_from (λ p. agree plain (shape_of table).primary p (column ∷ []) row) (db.trees (trees table)) p there same))

  -- whoever refers to a table of ours refers to its key, and its rows are named
  pub refers_here : (table : Table) (tree : ℕ) → Has db.schema.tables (made_here table tree) → (t : AnyTable) (ref : Reference) (key : ParentKey)
      → Has db.schema.tables t → Has t.references ref → parent_key db.schema.tables ref ≡ Some key → key.0 ≡ tree → IsParent table × (key ≡ key_of table tree)
  refers_here table tree listed t ref key known of is here =
      let p = named_parent db.schema.tables ref key is in
      let same = same_table db.schema.tables p.0 (made_here table tree) ours.apart p.1 listed (p.2 ∙ here) in
      let o = ours.referred t ref table known of (subst (λ (p : AnyTable). same_name p.name ref.parent ≡ true) same p.3) in
      let l = linked o.0 t.tree ref (subst (λ (t : AnyTable). Has t.references ref) o.1 of) in
      let other = l.0.1 in
      let able = to_parents o.0 l.0 l.1 in
      let place = parents other able in
      let found : Some key ≡ Some (key_of other (trees other)) =
      sym is ∙ ap (parent_key db.schema.tables) l.2 ∙ key_is db.schema (trees other) l.0.0 other able place in
      let one : key ≡ key_of other (trees other) = cc in
      let mine = same_table db.schema.tables (made_here other (trees other)) (made_here table tree) ours.apart
      (has_got db.schema.tables place.at _ place.there) listed (sym (ap (λ (k : ParentKey). k.0) one) ∙ here) in
      (subst IsParent (same_named other table (ap (λ (t : AnyTable). t.name) mine)) able, one ∙ ap key_by mine)
