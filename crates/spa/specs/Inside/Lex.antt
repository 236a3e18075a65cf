-- For proofs alone. Signed numbers are worths, and so are pairs of worths, the first part counting first.
use Rattle.std.proofs.Common.{◌≡◌, sym, ap, ◌∙◌, refl, arith}
use Rattle.std.specs.Prelude.{ℤ, ◌+ℤ◌, ◌<ℤ◌}
use Rattle.std.specs.declared.cmp.Ordering.{Ordering}
use Rattle.std.specs.declared.cmp.Ordering.TheVariants.{Equal, Less, Greater}
use Rattle.std.specs.Ordering.{int_cmp, ordering_then, MatchOrdering}
use Rattle.std.specs.Cmp.{int_cmp_is}
use Rattle.std.proofs.lemmas.Cmp.{int_cmp_total, on_total, then_total, int_ranked, by_ranked}
use Rattle.std.proofs.lemmas.Int.{ints}
use Rattle.std.proofs.Math.IntN.{+ℤ_assoc, +ℤ_comm, +ℤ_idr, -ℤ-+ℤ_cancel}
use Rattle.spa.specs.Laws.{Ops, IsWorth}
use Rattle.spa.specs.Lex.{int_ops, pair_ops}

-- numbers that compare as equal are the same
pub int_same : (x y : ℤ) → int_cmp x y ≡ Equal → x ≡ y
int_same x y e = by_ranked _ _ _ (int_cmp x y) (int_ranked x y (int_cmp x y) refl) (λ o p. cc) (λ o p. p) (λ o p. cc)

-- adding one number to both moves the comparison along
int_moved : (x y z : ℤ) (o : Ordering) → MatchOrdering o (x <ℤ y) (x ≡ y) (y <ℤ x)
    → MatchOrdering o ((x +ℤ z) <ℤ (y +ℤ z)) (x +ℤ z ≡ y +ℤ z) ((y +ℤ z) <ℤ (x +ℤ z))
int_moved x y z Less h = omega (arith, ints)
int_moved x y z Equal h = ap (λ w. w +ℤ z) h
int_moved x y z Greater h = omega (arith, ints)

-- adding one number to both keeps the order
pub int_keeps : (x y z : ℤ) → int_cmp (x +ℤ z) (y +ℤ z) ≡ int_cmp x y
int_keeps x y z = sym (int_cmp_is (x +ℤ z) (y +ℤ z) (int_cmp x y) (int_moved x y z (int_cmp x y) (int_ranked x y (int_cmp x y) refl)))

-- numbers keep the laws of worths
pub int_worth : IsWorth int_ops
int_worth = record {
  assoc = +ℤ_assoc;
  comm = +ℤ_comm;
  unit = +ℤ_idr;
  undo = -ℤ-+ℤ_cancel;
  total = int_cmp_total;
  same = int_same;
  keeps = int_keeps;
  span_zero = refl;
  span_plus = λ x y. omega (arith, ints);
  span_minus = λ x y. omega (arith, ints);
}

-- two comparisons one after another are equal where both are
pub then_equal : (o p : Ordering) → ordering_then o p ≡ Equal → (o ≡ Equal) × (p ≡ Equal)
then_equal Less p h = cc
then_equal Equal p h = (refl, h)
then_equal Greater p h = cc

-- pairs with equal parts are equal
pub pair_of : {A B : Type 0} {x y : A × B} → x.0 ≡ y.0 → x.1 ≡ y.1 → x ≡ y
pair_of {A} {B} {x} {y} p q = ap (λ (c : A). let t : A × B = (c, x.1) in t) p ∙ ap (λ (d : B). let t : A × B = (y.0, d) in t) q

module _ {A B : Type 0} {a : Ops A} {b : Ops B} (wa : IsWorth a) (wb : IsWorth b) where
  -- pairs keep the laws of worths
  pub pair_worth : IsWorth (pair_ops a b)
  pair_worth = record {
    assoc = λ x y z. pair_of (wa.assoc x.0 y.0 z.0) (wb.assoc x.1 y.1 z.1);
    comm = λ x y. pair_of (wa.comm x.0 y.0) (wb.comm x.1 y.1);
    unit = λ x. pair_of (wa.unit x.0) (wb.unit x.1);
    undo = λ x y. pair_of (wa.undo x.0 y.0) (wb.undo x.1 y.1);
    total = then_total (on_total (λ p. p.0) wa.total) (on_total (λ p. p.1) wb.total);
    same = λ x y e. let f = then_equal (a.cmp x.0 y.0) (b.cmp x.1 y.1) e in pair_of (wa.same x.0 y.0 f.0) (wb.same x.1 y.1 f.1);
    keeps = λ x y z. rw (wa.keeps x.0 y.0 z.0, wb.keeps x.1 y.1 z.1) refl;
    span_zero = rw (wa.span_zero, wb.span_zero) refl;
    span_plus = λ x y. omega (arith, wa.span_plus x.0 y.0, wb.span_plus x.1 y.1);
    span_minus = λ x y. omega (arith, wa.span_minus x.0 y.0, wb.span_minus x.1 y.1);
  }
