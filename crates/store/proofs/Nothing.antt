-- An opening of a database in which nothing was made is hindered by no statement: the names of the tables are free, and so are their trees,
-- one table after another, as is computed here; and the number of the edition comes into an empty table, whose rules it passes.
use Rattle.std.specs.Ordering.{is_eq}
use Rattle.sqlite.specs.Does.{lacks_sequence}
use Rattle.sqlite.specs.Edit.{is_taken}
use Rattle.sqlite.specs.Order.{value_cmp}
use Rattle.sqlite_schema.specs.Names.{same_name}
use Rattle.sqlite_schema.specs.declared.schema.Index.{Index}
use Rattle.std.proofs.lemmas.Bool.Decides.{Decides-ltb}
use Rattle.sqlite_sql.specs.Ops.{binary}
use Rattle.sql_tables.specs.Causes.{IsUnmade}
use Rattle.sqlite_catalog.specs.Change.{automatics, created, is_used, next_tree}
use Rattle.sql_tables.proofs.Founding.{founding}
use Rattle.sql_tables.proofs.Rowids.{permuted_has}
use Rattle.sql_tables.proofs.Taken.{one_more, stored}
use Rattle.store.specs.Laws.{nothing_made}
use Rattle.store.proofs.Among.{stands_among}
use Rattle.store.proofs.Available.{parent_roll}
use Rattle.store.proofs.ListedTables.{has_mapped}
use Rattle.store.proofs.NewTables.{founded_all, made_all}
use Rattle.store.proofs.Common.{Database, IsDatabase, Schema, AnyTable, Has, cells, has_got, some_has, Table, Edition, Lists, table_at, made_here, IsRefusedIn, passes_checks, adding, latest_number, all_tables, rolls, values, IsHinderedOpening, creating, each_of, making, ◌≡◌, ◌&&◌, ◌+◌, ◌<◌, List, [], ◌∷◌, Bool, true, false, Option, None, inl, inr, length, list_all, not, nat_lt, and_parts, not-true, true≢false, false_from_ne_true, Int, pos, rowid, ℕ, refl, sym, ap, subst, ◌∙◌, arith}

abbrev indexes_of : Table → List Index
indexes_of table = automatics (made_here table 0) 0 0 (made_here table 0).uniques

-- the table can be made under this schema
abbrev is_clear : Schema → Table → Bool
is_clear s t =
    not (is_used s (made_here t 0).name) && (list_all (λ (i : Index). not (is_used s i.name)) (indexes_of t)
    && (nat_lt (next_tree s + length (made_here t 0).uniques) 65536 && not (lacks_sequence (created s (made_here t 0)))))

-- so can these, one after another
are_clear : Schema → List Table → Bool
are_clear s [] = true
are_clear s (t ∷ ts) = is_clear s t && are_clear (created s (made_here t 0)) ts

clear_so : (s : Schema) (t : Table) (db : Database) → db.schema ≡ s → is_clear s t ≡ true → IsUnmade (made_here t 0) db → ⊥
clear_so s t db is clear unmade =
    let named = and_parts _ _ clear in
    let indexed = and_parts _ _ named.1 in
    let roomy = and_parts _ _ indexed.1 in
    elim unmade [
      | inl used ↦ true≢false (sym used ∙ ap (λ (s : Schema). is_used s (made_here t 0).name) is ∙ not-true _ named.0)
      | inr (inl (i, of, used)) ↦ true≢false (sym used ∙ ap (λ (s : Schema). is_used s i.name) is ∙ not-true _ (all_true (λ (i : Index). not (is_used s i.name)) (indexes_of t) indexed.0 i of))
      | inr (inr (inl full)) ↦ let few : next_tree s + length (made_here t 0).uniques < 65536 = (Decides-ltb _ _).0 roomy.0 in let same = ap next_tree is in absurd (omega (arith, full, few, same))
      | inr (inr (inr lacks)) ↦ true≢false (sym lacks ∙ ap (λ (s : Schema). lacks_sequence (created s (made_here t 0))) is ∙ not-true _ roomy.1)
    ]
  where
    all_true : (p : Index → Bool) (xs : List Index) → list_all p xs ≡ true → (x : Index) → Has xs x → p x ≡ true
    all_true p [] all x h = absurd h
    all_true p (y ∷ ys) all x (inl same) = ap p same ∙ (and_parts _ _ all).0
    all_true p (y ∷ ys) all x (inr h) = all_true p ys (and_parts _ _ all).1 x h

none_unmade : (tables : List Table) (s : Schema) (db : Database) (limit : Option ℕ) → db.schema ≡ s → are_clear s tables ≡ true → (let all = each_of making tables in all.hinders limit db) → ⊥
unfolding are_clear
none_unmade [] s db limit is clear hindered = hindered
none_unmade (t ∷ ts) s db limit is clear (inl unmade) = clear_so s t db is (and_parts (is_clear s t) (are_clear (created s (made_here t 0)) ts) clear).0 unmade
none_unmade (t ∷ ts) s db limit is clear (inr (mid, did, hindered)) =
    let both = and_parts (is_clear s t) (are_clear (created s (made_here t 0)) ts) clear in
    let made = did.1 (false_from_ne_true _ (λ lacks. clear_so s t db is both.0 (inr (inr (inr lacks))))) in
    none_unmade ts (created s (made_here t 0)) mid limit (made.1 ∙ ap (λ (s : Schema). created s (made_here t 0)) is) both.1 hindered

all_clear : are_clear nothing_made all_tables ≡ true
unfolding are_clear same_name
all_clear = refl

checked : (tree : ℕ) → passes_checks (made_here Edition tree) (stored Edition (pos 1) (values latest_number)) ≡ true
unfolding binary value_cmp lib.Ieee.is_nan lib.Ieee.lt
checked tree = refl

-- nothing hinders the making of the tables
makes_them : (db : Database) → IsDatabase db → db.schema ≡ nothing_made → creating.hinders None db → ⊥
makes_them db sound is (inl hindered) = none_unmade all_tables nothing_made db None is all_clear hindered
makes_them db sound is (inr (mid, made, hindered)) =
    let it = (founded_all all_tables db mid made (founding db sound (ap (λ (s : Schema). s.tables) is))).0 in
    let m = made_all all_tables db mid made in
    let place = λ (table : Table). m.places table in
    let stands = λ (table : Table) (among : Has all_tables table). m.stand table among in
    let there = λ (table : Table) (among : Has all_tables table). has_got mid.schema.tables (stands table among).listed.at (table_at table (place table)) (stands table among).listed.there in
    let here = λ (table : Table) (among : Has all_tables table). it.ours.made table (place table) (there table among) in
    let listed = λ (table : Table) (among : Has all_tables table). subst (Lists mid.schema) (here table among) (stands table among).listed in
    let first : Has all_tables Edition = inl refl in
    let tree = λ (table : Table). (place table).tree in
    let empty : is_taken (mid.trees (tree Edition)) (stored Edition (pos 1) (values latest_number)) ≡ false = false_from_ne_true _ (λ taken.
    let r = some_has (λ r. is_eq (value_cmp (rowid r) (Int (pos 1)))) (mid.trees (tree Edition)) taken in
    absurd (permuted_has [] _ (stands Edition first).holds _ (has_mapped (cells (table_at Edition (place Edition))) (mid.trees (tree Edition)) r.0 r.1))) in
    one_more mid it.sound it.ours tree (λ table is. listed table (inr (stands_among rolls table (parent_roll table is)))) Edition (listed Edition first) (values latest_number) (pos 1)
    (record { typed = refl; present = refl; checked = checked (tree Edition); small = (tt, (tt, tt)); some = omega arith; few = omega arith; names = tt; fits = refl }) empty (λ at k is. absurd (cc))
    (subst (λ u. IsRefusedIn mid (adding u (values latest_number) mid.trees)) (here Edition first) (hindered refl (place Edition) (stands Edition first).listed))

-- nor the opening
pub opens_nothing : (db : Database) → IsDatabase db → db.schema ≡ nothing_made → IsHinderedOpening None db → ⊥
opens_nothing db sound is (inl making) = makes_them db sound is making.1
opens_nothing db sound is (inr (inl reading)) = subst (λ (all : List AnyTable). Has all (table_at Edition reading.listed.edition)) (ap (λ (s : Schema). s.tables) is) (has_got db.schema.tables reading.listed.edition_listed.at _ reading.listed.edition_listed.there)
opens_nothing db sound is (inr (inr migrating)) =
    let listed = migrating.stands.holds.editions.listed in
    subst (λ (all : List AnyTable). Has all (table_at Edition migrating.stands.holds.edition)) (ap (λ (s : Schema). s.tables) is) (has_got db.schema.tables listed.at _ listed.there)
