-- Whole numbers as worths by cost. The span counts by 2 ^ 64, so that each number of 64 bits has a span of 1 at most.
use Rattle.std.proofs.Common.{◌+◌, ◌/◌, arith}
use Rattle.std.proofs.lemmas.Int.{ints}
use Rattle.std.specs.Prelude.{ℤ, pos, ◌+ℤ◌, ◌-ℤ◌}
use Rattle.std.specs.Ordering.{int_cmp}
use Rattle.std.specs.Int.RustNames.{unsigned_abs}
use Rattle.spa.specs.Laws.{Ops, IsWorth}
use Rattle.spa.specs.Inside.Lex.{int_worth}

-- what a worth by cost computes
abbrev pub cost_ops : Ops ℤ
cost_ops = record {
  zero = pos 0;
  plus = ◌+ℤ◌;
  minus = ◌-ℤ◌;
  cmp = int_cmp;
  span = λ x. (unsigned_abs x + 18446744073709551615) / 18446744073709551616;
}

-- it keeps the laws of worths
pub cost_worth : IsWorth cost_ops
cost_worth = record {
  assoc = int_worth.assoc;
  comm = int_worth.comm;
  unit = int_worth.unit;
  undo = int_worth.undo;
  total = int_worth.total;
  same = int_worth.same;
  keeps = int_worth.keeps;
  span_zero = omega arith;
  span_plus = λ x y. omega (arith, ints);
  span_minus = λ x y. omega (arith, ints);
}
