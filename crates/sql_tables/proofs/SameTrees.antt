-- Two databases with the same trees list the same tables, since a table is what its text in the list of objects defines, at the tree that
-- its rowid gives.
use Rattle.sql_tables.proofs.Common.{AllZip, IsPermutation, table_named, IsTableRow, is_table_row, Database, IsDatabase, Schema, AnyTable, Trees, Value, Int, Place, Lists, cells, IsKeyed, Stands, ◌≡◌, ℕ, ◌+◌, List, [], ◌∷◌, Some, arith, refl, sym, ap, subst, ◌∙◌, map, filter, slice_get, pos, Row as Cells, Words as Text}
use Rattle.sqlite_trees.specs.Objects.{catalog_tree}
use Rattle.sqlite_resolve.specs.Compile.{table_defined_by}

-- the number before one more
one_less : (m n : ℕ) → ◌≡◌ {A = Value} (Int (pos (m + 1))) (Int (pos (n + 1))) → m ≡ n
one_less m n h = let e : m + 1 ≡ n + 1 = cc in omega (arith, e)

-- a row of the list of objects is that of one table
same_table : (row : Cells) (a b : AnyTable) → IsTableRow row a → IsTableRow row b → a ≡ b
same_table row a b p q =
    let tree : a.tree ≡ b.tree = one_less a.tree b.tree (sym p.described.id ∙ q.described.id) in
    let text : ◌≡◌ {A = Value} (Text p.sql) (Text q.sql) = sym p.sql_is ∙ q.sql_is in
    let sql : p.sql ≡ q.sql = cc in
    let both = sym p.defined.1 ∙ ap table_defined_by sql ∙ q.defined.1 in
    let made : p.defined.0 ≡ q.defined.0 = cc in
    p.defined.2 ∙ ap (λ (t : AnyTable). record t { tree = a.tree }) made ∙ ap (λ n. record (q.defined.0) { tree = n }) tree ∙ sym q.defined.2

same_tables : (rows : List Cells) (a b : List AnyTable) → AllZip IsTableRow rows a → AllZip IsTableRow rows b → a ≡ b
same_tables [] [] [] p q = refl
same_tables [] [] (y ∷ b) p q = absurd q
same_tables [] (x ∷ a) b p q = absurd p
same_tables (r ∷ rows) [] b p q = absurd p
same_tables (r ∷ rows) (x ∷ a) [] p q = absurd q
same_tables (r ∷ rows) (x ∷ a) (y ∷ b) p q =
    let first : x ≡ y = same_table r x y p.0 q.0 in
    let more : a ≡ b = same_tables rows a b p.1 q.1 in
    λ i. first i ∷ more i

-- databases with the same trees list the same tables
pub listed_so : (a b : Database) → IsDatabase a → IsDatabase b → b.trees ≡ a.trees → a.schema.tables ≡ b.schema.tables
listed_so a b p q same =
    same_tables (filter is_table_row (a.trees catalog_tree)) a.schema.tables b.schema.tables p.lists.listed.tables
    (subst (λ (trees : Trees). AllZip IsTableRow (filter is_table_row (trees catalog_tree)) b.schema.tables) same q.lists.listed.tables)

-- what one lists the other lists
lists_so : (a b : Schema) (t : AnyTable) → a.tables ≡ b.tables → Lists a t → Lists b t
lists_so a b t same l = record {
  at = l.at;
  named = subst (λ tables. table_named (record a { tables = tables }) t.name ≡ Some l.at) same l.named;
  there = subst (λ tables. slice_get tables l.at ≡ Some t) same l.there;
}

-- a table that stands in one stands in the other
pub stands_so : (table : Place → AnyTable) (place : Place) (rows : List Cells) (a b : Database) → a.schema.tables ≡ b.schema.tables → b.trees ≡ a.trees → Stands table place rows a → Stands table place rows b
stands_so table place rows a b tables trees s = record {
  listed = lists_so a.schema b.schema (table place) tables s.listed;
  keyed = subst (λ (all : Trees). IsKeyed (all place.tree)) (sym trees) s.keyed;
  holds = subst (λ (all : Trees). IsPermutation rows (map (cells (table place)) (all (table place).tree))) (sym trees) s.holds;
}
