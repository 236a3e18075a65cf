-- The parts of an office that the instance of a round is made of.
use Rattle.std.specs.Prelude.{◌≡◌, ℕ, List, Option}
use Rattle.office.specs.closing.Common.{Instance, Supervisor, Project, Listed, Placement, State, lists_of, count_in, count_with, IsFit, instance_left}

-- these are the parts of the office, with the lists of the round n
pub record AreParts (o : State) (n : ℕ) (supervisors : List Supervisor) (projects : List Project) (placements : List Placement) (lists : List Listed) : Type 0 where
  pub all_supervisors : supervisors ≡ o.supervisors
  pub all_projects : projects ≡ o.projects
  pub all_placements : placements ≡ o.placements
  pub all_lists : lists ≡ lists_of o n

-- the parts of a fit office, with the lists of a round
pub record ArePartsOfFit (supervisors : List Supervisor) (projects : List Project) (placements : List Placement) (lists : List Listed) : Type 0 where
  pub office : State
  pub fit : IsFit office
  pub round : ℕ
  pub parts : AreParts office round supervisors projects placements lists

-- the instance of a round of the office of these parts, with the quotas less what the rounds up to one placed, or all rounds
abbrev pub IsInstanceLeft : Option ℕ → List Supervisor → List Project → List Placement → List Listed → Instance → Type 0
IsInstanceLeft up_to supervisors projects placements lists instance =
    (o : State) (n : ℕ) → AreParts o n supervisors projects placements lists
    → instance ≡ instance_left (count_with up_to o.projects o.placements) (count_in up_to o.placements) o n
