-- What callers see of a session: its aim, the students admitted so far with their lists, and the relaxations.
use Rattle.std.specs.Prelude.{◌≡◌, ℕ, ◌+◌, ◌*◌, ◌≤◌, ◌==◌, ◌++◌, ◌∷◌, [], List, length, sum_by, Bool}
use Rattle.std.specs.List.{list_any}
use Rattle.spa.specs.Shape.{Shape}
use Rattle.spa.specs.Matching.{Pair, IsBest}
use Rattle.spa.specs.declared.aim.Aim.{Aim}

-- the value of a session
pub record SessionState : Type 0 where
  -- which of the largest matchings is best
  pub aim : Aim
  -- the rolls, and the lists admitted so far, by position
  pub shape : Shape
  -- the relaxations since the start
  pub steps : ℕ

-- no student is admitted yet
abbrev pub nobody : List ℕ → List (ℕ × ℕ) → Shape
nobody supervisors projects = record { supervisors = supervisors; projects = projects; students = [] }

-- one more student, with this list
abbrev pub with_list : Shape → List ℕ → Shape
with_list i list = record i { students = i.students ++ list ∷ [] }

-- students, projects, supervisors and the sink
abbrev pub session_nodes : Shape → ℕ
session_nodes i = length i.students + length i.projects + length i.supervisors + 1

-- list entries, students, and twice the projects and the supervisors
abbrev pub session_arcs : Shape → ℕ
session_arcs i = sum_by length i.students + length i.students + 2 * length i.projects + 2 * length i.supervisors

-- how many relaxations the admission of the last student takes at most: a round over all arcs for each node, and one more
abbrev pub most_relaxations : Shape → ℕ
most_relaxations i = (session_nodes i + 1) * session_arcs i

-- a student was admitted with this list
pub record IsAdmitted (old new : SessionState) (list : List ℕ) (relaxations : ℕ) : Type 0 where
  pub aim : new.aim ≡ old.aim
  pub shape : new.shape ≡ with_list old.shape list
  pub counted : new.steps ≡ old.steps + relaxations
  pub compared : length list ≤ relaxations
  pub bound : relaxations ≤ most_relaxations new.shape

-- some best matching of the students admitted has the one at this position exactly where `placed` says so
pub record ReturnsIfPlaced (s : SessionState) (student : ℕ) (placed : Bool) : Type 0 where
  pub matching : List Pair
  pub best : IsBest s.aim s.shape matching
  pub returned : placed ≡ list_any (λ e. e.student == student) matching
