-- The instances that an office has.
use Rattle.std.specs.Prelude.{◌≡◌, ℕ, List}
use Rattle.spa.specs.Instance.{Instance}
use Rattle.office_model.specs.Fit.{IsFit}
use Rattle.office_model.specs.State.{State}
use Rattle.office_model.specs.Instances.{instance_left}

-- the instance of a round of a fit office, whatever is taken
pub record IsRound (l : Instance) : Type 0 where
  pub office : State
  pub fit : IsFit office
  pub round : ℕ
  pub with_supervisor : List ℕ → ℕ
  pub in_project : List ℕ → ℕ
  pub same : l ≡ instance_left with_supervisor in_project office round
