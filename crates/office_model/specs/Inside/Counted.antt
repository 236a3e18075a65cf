-- For proofs alone. How many placements each project and each supervisor has, by position in the rolls.
use Rattle.std.specs.Prelude.{◌≡◌, ◌+◌, ◌<◌, ◌≤◌, ◌==◌, ◌&&◌, ℕ, cond, false, List, slice_get, slice_index, Option, Some}
use Rattle.office_model.specs.Common.{bytes_eq, MAX_SUPERVISORS, MAX_PROJECTS, Counted, SupervisorEntry as Supervisor, ProjectEntry as Project, PlacementEntry as Placement}
use Rattle.office_model.specs.Counted.{is_made_by, offers}

-- a project stands at a position of its roll, and its supervisor at one of the other, and nowhere else
pub record ArePositions (supervisors : List Supervisor) (projects : List Project) (project : List ℕ) (p l : ℕ) : Type 0 where
  pub project_within : p < MAX_PROJECTS
  pub supervisor_within : l < MAX_SUPERVISORS
  pub project_there : (k : ℕ) (e : Project) → slice_get projects k ≡ Some e → bytes_eq e.code project ≡ (p == k)
  pub supervisor_there : (k : ℕ) (s : Supervisor) → slice_get supervisors k ≡ Some s → offers projects s.code project ≡ (l == k)

-- a project stands nowhere on its roll, so no supervisor offers it
pub record IsOffRoll (supervisors : List Supervisor) (projects : List Project) (project : List ℕ) : Type 0 where
  pub no_project : (k : ℕ) (e : Project) → slice_get projects k ≡ Some e → bytes_eq e.code project ≡ false
  pub no_supervisor : (s : List ℕ) → offers projects s project ≡ false

-- one more placement is counted, if such a round made it, for its project and the project's supervisor
pub record CountsPlacement (up_to : Option ℕ) (supervisors : List Supervisor) (projects : List Project) (q : Placement) (old new : Counted) : Type 0 where
  pub in_project : (k : ℕ) (e : Project) → slice_get projects k ≡ Some e → slice_index new.projects k ≡ slice_index old.projects k + cond (is_made_by up_to q && bytes_eq e.code q.project) 1 0
  pub with_supervisor : (k : ℕ) (s : Supervisor) → slice_get supervisors k ≡ Some s → slice_index new.supervisors k ≡ slice_index old.supervisors k + cond (is_made_by up_to q && offers projects s.code q.project) 1 0
  pub few_in_project : (k : ℕ) → slice_index new.projects k ≤ slice_index old.projects k + 1
  pub few_with_supervisor : (k : ℕ) → slice_index new.supervisors k ≤ slice_index old.supervisors k + 1
