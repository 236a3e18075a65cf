-- How many placements each project and each supervisor has, by position in the rolls.
use Rattle.std.specs.Prelude.{◌≡◌, ◌≤◌, ◌&&◌, ℕ, nat_le, Bool, true, false, IsTrue, List, length, count_by, slice_get, slice_index, Option, Some, None}
use Rattle.office_model.specs.Common.{option_map_or, AllByRecursion, bytes_eq, MAX_SUPERVISORS, MAX_PROJECTS, Counted, SupervisorEntry as Supervisor, ProjectEntry as Project, PlacementEntry as Placement, of_code, find, has, rises, supervisor_key, project_key}

-- whether a round up to this one made the placement; where none is named, any round did
abbrev pub is_made_by : Option ℕ → Placement → Bool
is_made_by None q = true
is_made_by (Some n) q = nat_le q.round n

-- whether a supervisor offers one of these projects
abbrev pub offers : List Project → List ℕ → List ℕ → Bool
offers projects supervisor project = option_map_or (λ p. bytes_eq supervisor p.supervisor) (find project_key (of_code project) projects) false

-- rolls in the order of codes, no longer than they may be, with the supervisor of each project
pub record AreRolls (supervisors : List Supervisor) (projects : List Project) : Type 0 where
  pub supervisors_rise : IsTrue (rises supervisor_key supervisors)
  pub projects_rise : IsTrue (rises project_key projects)
  pub few_supervisors : length supervisors ≤ MAX_SUPERVISORS
  pub few_projects : length projects ≤ MAX_PROJECTS
  pub offered : AllByRecursion (λ p. IsTrue (has supervisor_key (of_code p.supervisor) supervisors)) projects

-- how many of the placements that such rounds made are in a project
abbrev pub count_in : Option ℕ → List Placement → List ℕ → ℕ
count_in up_to placements project = count_by (λ q. is_made_by up_to q && bytes_eq project q.project) placements

-- how many of them are with a supervisor of these projects
abbrev pub count_with : Option ℕ → List Project → List Placement → List ℕ → ℕ
count_with up_to projects placements supervisor = count_by (λ q. is_made_by up_to q && offers projects supervisor q.project) placements

-- the placements that such rounds made are counted, for each project and each supervisor of the rolls
pub record AreCounted (up_to : Option ℕ) (supervisors : List Supervisor) (projects : List Project) (placements : List Placement) (counts : Counted) : Type 0 where
  pub in_project : (k : ℕ) (e : Project) → slice_get projects k ≡ Some e → slice_index counts.projects k ≡ count_in up_to placements e.code
  pub with_supervisor : (k : ℕ) (s : Supervisor) → slice_get supervisors k ≡ Some s → slice_index counts.supervisors k ≡ count_with up_to projects placements s.code
