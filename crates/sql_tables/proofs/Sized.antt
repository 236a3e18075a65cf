-- A row of few and short values can be stored, and so can its entry in the index of a key.
use Rattle.sql_tables.proofs.Common.{◌≡◌, inl, inr, ℕ, pos, negsuc, suc, ◌+◌, ◌*◌, ◌≤◌, ◌<◌, zero, List, [], ◌∷◌, Option, None, Some, drop, length, nat_le, slice_get, slice_index_or, sum_by, true, refl, sym, ap, subst, ◌∙◌, arith, ⊤, AllByRecursion, list_all, Value, Null, Int, Words, Bytes as Blob, Row, IsOversized, Database, bytes, number, IsStorable, index_reals, table_reals, Index, Has, has_got, test_has, Ours as Table, Edition, laid_out, made_here, rules_of, shape_of, IsOurs}
use Rattle.std.proofs.Common.{All}
use Rattle.std.specs.Float.{NotNan}
use Rattle.std.proofs.lemmas.Nat.Bits.{bit_at-zero}
use Rattle.std.proofs.lemmas.List.Sums.{sum_by-cons}
use Rattle.std.proofs.lemmas.List.Elements.{All-cons, All-nil}
use Rattle.sqlite.specs.declared.types.Value.TheVariants.{Real}
use Rattle.sqlite_sql.specs.Catalog.{entry_of}

-- a value of a row of ours
abbrev pub IsSmall : Value → Type 0
IsSmall Null = ⊤
IsSmall (Int n) = ⊤
IsSmall (Real x) = ⊥
IsSmall (Words text) = length text ≤ 65536
IsSmall (Blob given) = length given ≤ 65536

is_number : (v : Value) → IsSmall v → NotNan (number v)
unfolding lib.Ieee.is_nan
is_number Null small = tt
is_number (Int (pos n)) small = tt
is_number (Int (negsuc n)) small = tt
is_number (Real x) small = absurd small
is_number (Words text) small = tt
is_number (Blob given) small = tt

few_bytes : (v : Value) → IsSmall v → 18 + length (bytes v) ≤ 65554
few_bytes Null small = omega arith
few_bytes (Int n) small = omega arith
few_bytes (Real x) small = absurd small
few_bytes (Words text) small = omega (arith, small)
few_bytes (Blob given) small = omega (arith, small)

sum_small : (row : Row) → AllByRecursion IsSmall row → sum_by (λ v. 18 + length (bytes v)) row ≤ 65554 * length row
sum_small [] small = omega arith
sum_small (v ∷ row) small = omega (arith, sum_by-cons (λ v. 18 + length (bytes v)) v row, few_bytes v small.0, sum_small row small.1)

are_numbers : (row : Row) → AllByRecursion IsSmall row → All (λ v. NotNan (number v)) row
are_numbers [] small = All-nil (λ v. NotNan (number v))
are_numbers (v ∷ row) small = All-cons (λ v. NotNan (number v)) v row (is_number v small.0) (are_numbers row small.1)

storable : (row : Row) → AllByRecursion IsSmall row → 0 < length row → length row ≤ 6 → IsStorable 0 row
storable row small some few = record {
  typed = λ c set. absurd (omega (arith, bit_at-zero c, set));
  columns = (some, omega (arith, few));
  numbers = are_numbers row small;
  short = omega (arith, sum_small row small, few);
}

small_at : (row : Row) (at : ℕ) → AllByRecursion IsSmall row → IsSmall (slice_index_or row at Null)
small_at [] at small = tt
small_at (v ∷ row) zero small = small.0
small_at (v ∷ row) (suc at) small = small_at row at small.1

small_entry : (row : Row) (columns : List ℕ) → AllByRecursion IsSmall row → AllByRecursion IsSmall (entry_of columns row)
small_entry row [] small = (small_at row 0 small, tt)
small_entry row (at ∷ columns) small = (small_at row at small, small_entry row columns small)

length_entry : (row : Row) (columns : List ℕ) → length (entry_of columns row) ≡ suc (length columns)
length_entry row [] = refl
length_entry row (at ∷ columns) = ap suc (length_entry row columns)

no_reals : (columns : List ℕ) → index_reals 0 columns ≡ 0
no_reals [] = refl
no_reals (at ∷ columns) = omega (arith, bit_at-zero at, no_reals columns)

-- no table of ours has a REAL column, nor a key of more than three columns
reals_none : (table : Table) (tree : ℕ) → table_reals (made_here table tree) ≡ 0
reals_none Edition tree = refl
reals_none _ tree = refl

short_keys : (table : Table) → list_all (λ key. nat_le (length key) 3) (shape_of table).uniques ≡ true
short_keys Edition = refl
short_keys _ = refl

few_columns : (table : Table) (at : ℕ) (key : List ℕ) → slice_get (shape_of table).uniques at ≡ Some key → length key ≤ 3
few_columns table at key is =
    let few = test_has (λ key. nat_le (length key) 3) (shape_of table).uniques key (short_keys table) (has_got (shape_of table).uniques at key is) in
    grind (arith, few)

-- no such row is too large
pub fits_in : (db : Database) (table : Table) (tree : ℕ) (row : Row) → IsOurs db → Has db.schema.tables (made_here table tree)
    → AllByRecursion IsSmall row → 1 < length row → length row ≤ 6 → IsOversized db.schema (made_here table tree) row → ⊥
fits_in db table tree row ours there small some few (inl big) =
    big (subst (λ reals. IsStorable reals row) (sym (reals_none table tree)) (storable row small (omega (arith, some)) few), some)
fits_in db table tree row ours there small some few (inr (i, has, same, big)) =
    let own = ours.own table (record { tree = tree; rules = rules_of table }) i there has same in
    let columns : i.columns ≡ own.1 = ap (λ (i : Index). i.columns) own.3 in
    let short = few_columns table own.0 own.1 own.2 in
    let size = length_entry row own.1 in
    let entry = storable (entry_of own.1 row) (small_entry row own.1 small) (omega (arith, size)) (omega (arith, size, short)) in
    let bare : index_reals (table_reals (made_here table tree)) own.1 ≡ 0 = ap (λ reals. index_reals reals own.1) (reals_none table tree) ∙ no_reals own.1 in
    big (subst (λ columns. IsStorable (index_reals (table_reals (made_here table tree)) columns) (entry_of columns row)) (sym columns)
    (subst (λ reals. IsStorable reals (entry_of own.1 row)) (sym bare) entry))

-- a row that is given is small as it is stored
pub small_stored : (key : Option ℕ) (given : Row) (id : Value) → IsSmall id → AllByRecursion IsSmall given
    → AllByRecursion IsSmall (id ∷ drop 1 (laid_out Null key given))
small_stored None given id is small = (is, small)
small_stored (Some at) [] id is small = (is, tt)
small_stored (Some at) (first ∷ given) id is small = (is, (tt, small.1))

pub length_stored : (key : Option ℕ) (given : Row) (id : Value) → 1 ≤ length given → length given ≤ 4
    → (1 < length (id ∷ drop 1 (laid_out Null key given))) × (length (id ∷ drop 1 (laid_out Null key given)) ≤ 6)
length_stored None given id some few = (omega (arith, some), omega (arith, few))
length_stored (Some at) [] id some few = absurd (omega (arith, some))
length_stored (Some at) (first ∷ given) id some few = (omega arith, omega (arith, few))
