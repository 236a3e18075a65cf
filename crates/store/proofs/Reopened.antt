-- A database that is found again: what has the trees of one of ours is one of ours, and its opening is hindered by no statement and changes
-- nothing. An index of a table of ours is what its row of the list of objects defines, and so the same in both.
use Rattle.std.specs.Ordering.{is_eq}
use Rattle.std.specs.declared.cmp.Ordering.TheVariants.{Less}
use Rattle.sqlite_catalog.specs.Listing.{IsDefined, IsIndexRow, automatic, is_index_row}
use Rattle.sqlite_catalog.proofs.LayoutLemmas.{zipped_left, zipped_right}
use Rattle.sqlite_catalog.proofs.StepLemmas.{named_once, same_itself}
use Rattle.sqlite_rules.proofs.RuleLemmas.{same_table}
use Rattle.sqlite_schema.specs.Names.{same_name}
use Rattle.sqlite_schema.specs.declared.schema.Index.{Index}
use Rattle.sqlite_trees.specs.Objects.{catalog_tree}
use Rattle.sqlite_trees.specs.View.{is_int}
use Rattle.sqlite.specs.declared.types.Value.{Value}
use Rattle.std.proofs.Common.{◌≡◌, ◌⊎◌, inl, inr, ℕ, ◌+◌, ◌<◌, ◌^◌, List, [], ◌∷◌, Some, None, true, false, filter, pos, slice_get, refl, sym, ap, subst, ◌∙◌, arith}
use Rattle.sql_tables.specs.Common.{AllByRecursion, IsAscending, IsTable, Row, Null, Int, Words, column, rowid, value_cmp}
use Rattle.sql_tables.specs.Keyed.{IsKeyed}
use Rattle.sql_tables.specs.Ours.{HasRoom, IsOurs, IsOwnIndex}
use Rattle.sql_tables.specs.Causes.{CanFind, IsUnread}
use Rattle.sql_tables.specs.Layout.{is_there}
use Rattle.sql_tables.specs.Table.{made_here, shape_of, table_at}
use Rattle.sql_tables.proofs.SameTrees.{listed_so}
use Rattle.sql_tables.proofs.Ours.{is_first_of}
use Rattle.store.specs.Common.{AnyTable, Database, Has, IsDatabase, Lists, Place, State, Table, Trees}
use Rattle.schema.specs.declared.table.Table.TheVariants.{Choice, Edition, Supervisor}
use Rattle.store.specs.declared.edition.Edition.{Edition as AnEdition}
use Rattle.store.specs.declared.edition.Edition.TheVariants.{First, Second, Third}
use Rattle.store.specs.Causes.{IsHinderedOpening, IsHinderedReading}
use Rattle.store.specs.Editions.{IsEarlier, beyond, latest, rolls_of}
use Rattle.store.specs.Laws.{FindsOurs, OpensOurs}
use Rattle.store.specs.Tables.{HasNoneOf, Opens, StandsFor}
use Rattle.store.proofs.Among.{is_among}
use Rattle.store.proofs.Common.{has_got}
use Rattle.store.proofs.SameTrees.{holds_so}

-- ---- the same trees

-- the number before one more
one_less : (m n : ℕ) → ◌≡◌ {A = Value} (Int (pos (m + 1))) (Int (pos (n + 1))) → m ≡ n
one_less m n h = let e : m + 1 ≡ n + 1 = cc in omega (arith, e)

-- of one row a table has one index: the one that its text defines, or an automatic one
one_index : (table : AnyTable) (i j : Index) (text : Value) → i.tree ≡ j.tree → IsDefined table i text → IsDefined table j text
    → (i ≡ j) ⊎ ((at : ℕ) × (key : List ℕ) × (slice_get table.uniques at ≡ Some key) × (i ≡ automatic table at key i.tree))
one_index table i j Null tree p q = inr (p.0, p.1, p.2, p.3)
one_index table i j (Words sql) tree p q =
    let same : p.0 ≡ q.0 = let both = sym p.1 ∙ q.1 in cc in
    inl (p.2 ∙ (λ k. record (same k) { tree = tree k; table = table.tree }) ∙ sym q.2)
one_index table i j _ tree p q = absurd p

module _ (db found : Database) (sound : IsDatabase db) (here : IsDatabase found) (trees : found.trees ≡ db.trees) (ours : IsOurs db) where
  tables : db.schema.tables ≡ found.schema.tables
  tables = listed_so db found sound here trees

  back : (t : AnyTable) → Has found.schema.tables t → Has db.schema.tables t
  back t h = subst (λ all. Has all t) (sym tables) h

  own_index : (t : Table) (place : Place) (i : Index) → Has found.schema.tables (table_at t place) → Has found.schema.indexes i → i.table ≡ place.tree → IsOwnIndex (made_here t place.tree) i
  own_index t place i there listed of =
      let row = zipped_left (IsIndexRow found.schema.tables) (filter is_index_row (found.trees catalog_tree)) found.schema.indexes i here.lists.listed.indexes listed in
      let before = subst (λ (all : Trees). Has (filter is_index_row (all catalog_tree)) row.0) trees row.1 in
      let twin = zipped_right (IsIndexRow db.schema.tables) (filter is_index_row (db.trees catalog_tree)) db.schema.indexes row.0 sound.lists.listed.indexes before in
      let one = row.2 in
      let two = twin.2 in
      let named : one.table.name ≡ two.table.name = let both = sym one.described.owner_is ∙ two.described.owner_is in cc in
      let same : one.table ≡ two.table =
      named_once db.schema.tables one.table two.table sound.lists.listed.named (back one.table one.listed) two.listed
      (subst (λ (name : List ℕ). same_name one.table.name name ≡ true) named (same_itself one.table.name)) in
      let tree : i.tree ≡ twin.0.tree = one_less i.tree twin.0.tree (sym one.described.id ∙ two.described.id) in
      elim (one_index one.table i twin.0 (column row.0 4) tree one.defined (subst (λ (table : AnyTable). IsDefined table twin.0 (column row.0 4)) (sym same) two.defined)) [
        | inl is ↦ subst (IsOwnIndex (made_here t place.tree)) (sym is) (ours.own t place twin.0 (back _ there) twin.1 (ap (λ (i : Index). i.table) (sym is) ∙ of))
        | inr auto ↦
            let place_of : one.table.tree ≡ place.tree = ap (λ (i : Index). i.table) (sym auto.3) ∙ of in
            let table : one.table ≡ table_at t place = same_table db.schema.tables one.table (table_at t place) ours.apart (back one.table one.listed) (back _ there) place_of in
            subst (λ (table : AnyTable). IsOwnIndex table i) (table ∙ ours.made t place (back _ there)) auto
      ]

  found_ours : IsOurs found
  found_ours = record {
    made = λ t place there. ours.made t place (back _ there);
    own = own_index;
    apart = subst (IsAscending (λ (a b : AnyTable). a.tree ≡ b.tree → ⊥)) tables ours.apart;
    referred = λ t ref table there has named. ours.referred t ref table (back t there) has named;
    numbered = λ t place there. subst (λ (all : Trees). AllByRecursion (λ r. (n : ℕ) × (rowid r ≡ Int (pos n))) (all place.tree)) (sym trees) (ours.numbered t place (back _ there));
    rise = λ t place there. subst (λ (all : Trees). IsTable (all place.tree)) (sym trees) (ours.rise t place (back _ there));
  }

  found_room : (count : ℕ) → HasRoom count db → HasRoom count found
  found_room count room t place there =
      subst (λ (all : Trees). AllByRecursion (λ r. (n : ℕ) → rowid r ≡ Int (pos n) → n + count < 2 ^ 63) (all place.tree)) (sym trees) (room t place (back _ there))

pub finds_ours : FindsOurs
finds_ours db found sound here trees ours =
    (found_ours db found sound here trees ours, found_room db found sound here trees ours, λ rows. holds_so (rolls_of latest) _ db found rows sound here trees)

-- ---- its opening

-- rowids that are numbers and rise distinguish rows
apart : (r : Row) (rows : List Row) → AllByRecursion (λ s. value_cmp (rowid r) (rowid s) ≡ Less) rows → AllByRecursion (λ s. is_eq (value_cmp (rowid r) (rowid s)) ≡ false) rows
apart r [] up = tt
apart r (s ∷ rows) up = (ap is_eq up.0, apart r rows up.1)

all_apart : (rows : List Row) → IsTable rows → IsAscending (λ a b. is_eq (value_cmp (rowid a) (rowid b)) ≡ false) rows
all_apart [] up = tt
all_apart (r ∷ rows) up = (apart r rows up.0, all_apart rows up.1)

all_ids : (rows : List Row) → AllByRecursion (λ r. (n : ℕ) × (rowid r ≡ Int (pos n))) rows → AllByRecursion (λ r. is_int (rowid r) ≡ true) rows
all_ids [] are = tt
all_ids (r ∷ rows) are = (ap is_int are.0.1, all_ids rows are.1)

module _ (db : Database) (sound : IsDatabase db) (ours : IsOurs db) where
  keyed : (table : Table) (place : Place) → Lists db.schema (table_at table place) → IsKeyed (db.trees place.tree)
  keyed table place listed =
      let there = has_got db.schema.tables listed.at (table_at table place) listed.there in
      record { ids = all_ids _ (ours.numbered table place there); apart = all_apart _ (ours.rise table place there) }

  can : (table : Table) → CanFind (table_at table) None db
  can table = (refl, sound, λ place listed. is_first_of db ours table place listed)

  not_reading : IsHinderedReading None db → ⊥
  not_reading it = elim it.among [
    | inl same ↦ subst (λ table. IsUnread (table_at table) None db) same it.hindered (can Edition) it.listed.edition it.listed.edition_listed (keyed Edition it.listed.edition it.listed.edition_listed)
    | inr roll ↦
        let listed = it.listed.rolls_listed it.table (is_among (rolls_of it.edition) it.table roll) in
        it.hindered (can it.table) (it.listed.places it.table) listed (keyed it.table (it.listed.places it.table) listed)
  ]

  module _ (office : State) (stands : StandsFor db office) where
    -- a table that holds rows is there
    there_so : (table : Table) → Has (rolls_of latest) table → is_there db.schema (shape_of table).name ≡ false → ⊥
    there_so table among missing = let there = (stands.rolls table (is_among (rolls_of latest) table among)).listed.named in absurd (let e = rw there at missing in cc)

    supervisors : is_there db.schema (shape_of Supervisor).name ≡ false → ⊥
    supervisors = there_so Supervisor (inl refl)

    -- so the tables are of no earlier edition
    lacks : (e : AnEdition) → IsEarlier e → Has (beyond e) Choice
    lacks First is = inr (inl refl)
    lacks Second is = inl refl
    lacks Third is = absurd is

    choices : (e : AnEdition) → IsEarlier e → HasNoneOf (beyond e) db.schema → ⊥
    choices e earlier none = there_so Choice (inr (inr (inr (inr (inr (inr (inr (inr (inl refl))))))))) (none Choice (lacks e earlier))

    not_hindered : IsHinderedOpening None db → ⊥
    not_hindered (inl (none, hindered)) = supervisors (none Supervisor (inr (inl refl)))
    not_hindered (inr (inl reading)) = not_reading reading
    not_hindered (inr (inr migrating)) = choices migrating.edition migrating.earlier migrating.stands.alone

    same : (opened : Database) (again : State) → Opens db opened again → opened ≡ db
    same opened again (inl made) = absurd (supervisors (made.0 Supervisor (inr (inl refl))))
    same opened again (inr (inl found)) = found.0
    same opened again (inr (inr migrated)) = absurd (choices migrated.edition migrated.earlier migrated.stood.alone)

pub opens_ours : OpensOurs
opens_ours db office sound ours stands = (not_hindered db sound ours office stands, same db sound ours office stands)
