-- The tests of keys.
use Rattle.sql_tables.proofs.Common.{Int, Row, rowid, is_int, equal, is_eq, value_cmp-Int, int_is, id_of, Binary, Expr, op2, ◌≡◌, ℕ, ℤ, List, None, true, false, Bool, Some, Ordering, Less, Equal, Greater, refl, ap, sym, subst, ◌∙◌, is_true, from_truth}
use Rattle.sqlite_sql.specs.Ops.{binary}
use Rattle.std.proofs.lemmas.Map.Lookups.{exact_signed}
use Rattle.sqlite_ast.specs.declared.Expr.TheVariants as expr
use Rattle.sqlite_ast.specs.declared.Binary.TheVariants as binary
use Rattle.sqlite_sql.specs.Term.{Term, col}
use Rattle.sqlite_sql.specs.declared.ops.BinaryOp.TheVariants.{Compare}
use Rattle.sqlite_sql.specs.declared.ops.CompareOp.TheVariants.{Eq}

-- a column is a parameter, as it is written
abbrev pub is_parameter : List ℕ → ℕ → Expr
is_parameter name at = expr.Binary binary.Eq (expr.Column None name) (expr.Parameter at)

-- the same, as it is resolved: what is given may be converted
abbrev pub equals : ℕ → Term → Term
equals place given = op2 (Compare Eq Binary) (col 1 place) given

truth_is : (b : Bool) → is_true (from_truth (Some b)) ≡ b
truth_is true = refl
truth_is false = refl

equal_is : (o : Ordering) → is_eq o ≡ true → o ≡ Equal
equal_is Equal h = refl
equal_is Less h = absurd (cc)
equal_is Greater h = absurd (cc)

-- an integer is another where SQL compares them as one
pub equal_int : (a b : ℤ) → equal Binary (Int a) (Int b) ≡ true → a ≡ b
unfolding binary
equal_int a b h = exact_signed a b (equal_is _ (ap is_eq (sym (value_cmp-Int a b)) ∙ sym (truth_is _) ∙ h))

-- a rowid that is compared as a number is that number
pub rowid_is : (r : Row) (n : ℤ) → is_int (rowid r) ≡ true → equal Binary (rowid r) (Int n) ≡ true → rowid r ≡ Int n
rowid_is r n int same = int_is (rowid r) int ∙ ap Int (equal_int (id_of r) n (subst (λ v. equal Binary v (Int n) ≡ true) (int_is (rowid r) int) same))
