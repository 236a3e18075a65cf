use Rattle.std.proofs.Common.{ℕ, ℤ, Option, ap, sym, ◌∙◌}
use Rattle.public_result.proofs.Common.{holding}
use Rattle.public_result.proofs.own.holding_of.Goals as goal

pub returns-in_default : goal.returns-in_default
returns-in_default c = (
  λ p e. absurd (c.in_default.not-Some p e),
  λ k h. ap (λ (f : ℕ → ℤ). f k) c.nothing.ensures ∙ ap (λ (x : Option ℕ). holding c.args.posted.now c.args.list.now x k) (sym c.in_default.is),
)
