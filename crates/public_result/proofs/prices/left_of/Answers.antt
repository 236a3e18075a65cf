use Rattle.std.proofs.Common.{◌≡◌, ◌≤◌, ◌+◌, ℕ, zero, suc, arith, length-set, ◌∙◌, refl, ap, ℤ, pos, ◌-ℤ◌, cond, ◌==◌, Bool, true, false}
use Rattle.public_result.proofs.Common.{ints, plus, at, weight, InRange}
use Rattle.verdict.proofs.PriceReads.{filled_more}
use Rattle.public_result.proofs.prices.left_of.Goals as goal

small : (r t : ℕ) → weight r t ≤ 1
small r zero = omega arith
small r (suc k) = one (r == k + 1)
  where
    one : (b : Bool) → cond b 1 0 ≤ 1
    one true = omega arith
    one false = omega arith

pub overflow_add-left : goal.overflow_add-left
overflow_add-left c =
    let t = c.loop-t.t in
    let y : InRange (at c.args.project.now t) = c.requires.project t c.loop-t-test.true in
    let z : InRange (at c.args.supervisor.now t) = c.requires.supervisor t c.loop-t-test.true in
    omega (arith, ints)

pub overflow_sub-left : goal.overflow_sub-left
overflow_sub-left c =
    let t = c.loop-t.t in
    let y : InRange (at c.args.project.now t) = c.requires.project t c.loop-t-test.true in
    let z : InRange (at c.args.supervisor.now t) = c.requires.supervisor t c.loop-t-test.true in
    let w : at c.weight_of-weight.result t ≡ pos (weight c.args.rank t) = ap (λ (f : ℕ → ℤ). f t) c.weight_of-weight.ensures in
    let s = small c.args.rank t in
    omega (arith, ints)

pub loop-t-preserved : goal.loop-t-preserved
loop-t-preserved c =
    let t = c.loop-t.t in
    let y : InRange (at c.args.project.now t) = c.requires.project t c.loop-t-test.true in
    let z : InRange (at c.args.supervisor.now t) = c.requires.supervisor t c.loop-t-test.true in
    let e : at c.weight_of-weight.result t ≡ pos (weight c.args.rank t) = ap (λ (f : ℕ → ℤ). f t) c.weight_of-weight.ensures in
    let s = small c.args.rank t in
    let w = c.loop-t.invariant.whole in
    record {
      whole = length-set _ _ _ ∙ w;
      filled = filled_more c.loop-t.left (λ k. pos (weight c.args.rank k) -ℤ plus (at c.args.project.now) (at c.args.supervisor.now) k) t _ (omega arith) c.loop-t.invariant.filled (omega (arith, ints));
    }

pub loop-t-init : goal.loop-t-init
loop-t-init c = record { whole = refl; filled = λ k h. absurd (omega (arith, h)) }

pub returns : goal.returns
returns c = λ k h. c.loop-t.invariant.filled k (omega (arith, h))
