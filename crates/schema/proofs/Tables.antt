-- Two tables are one where the test says so.
use Rattle.std.proofs.Common.{◌≡◌, true, slice_index_or, refl, sym, ap, ◌∙◌}
use Rattle.std.proofs.lemmas.Bool.{eqb-true, eq-eqb}
use Rattle.schema.specs.declared.table.Table.{Table}
use Rattle.schema.specs.declared.table.Table.TheVariants.{Edition}
use Rattle.schema.specs.Rows.{all_tables, numbered, same_table}

-- a table's number gives it back
given_back : (table : Table) → slice_index_or all_tables (let n = numbered table in n.0) Edition ≡ table
given_back Edition = refl
given_back _ = refl

-- so tables of one number are one
pub same_table_is : (a b : Table) → same_table a b ≡ true → a ≡ b
same_table_is a b h = sym (given_back a) ∙ ap (λ n. slice_index_or all_tables n Edition) (eqb-true _ _ h) ∙ given_back b

-- a table is the same as itself
pub same_table_self : (a : Table) → same_table a a ≡ true
same_table_self a = eq-eqb (let n = numbered a in n.0) (let n = numbered a in n.0) refl
