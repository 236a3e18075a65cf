-- What a call may hand in.
use Rattle.std.specs.Prelude.{◌≡◌, ℕ, Some, ◌≤◌, ◌<◌, List, All, length, slice_get}
use Rattle.spa.specs.declared.TheConstants.{MAX_SUPERVISORS, MAX_PROJECTS, MAX_STUDENTS, MAX_QUOTA, RANKS}
use Rattle.spa.specs.Laws.{Ops}
use Rattle.network.specs.declared.flow.Flow.{Flow}

-- each entry names a known project, and its worth is small
abbrev pub IsKnownList : {G : Type 0} → Ops G → ℕ → List (ℕ × G) → Type 0
IsKnownList {G} o projects list = (k p : ℕ) (w : G) → slice_get list k ≡ Some (p, w) → (p < projects) × (o.span w ≤ 1)

-- a student with this list may be admitted
pub record IsAdmissible {G : Type 0} (o : Ops G) (f : Flow G) (list : List (ℕ × G)) : Type 0 where
  pub few : length f.lists.items < MAX_STUDENTS
  pub short : length list ≤ RANKS
  pub known : IsKnownList o (length f.projects.items) list

-- supervisors with their quotas and projects with supervisor and quota, within the limits
pub record AreQuotaRolls (supervisors : List ℕ) (projects : List (ℕ × ℕ)) : Type 0 where
  pub few_supervisors : length supervisors ≤ MAX_SUPERVISORS
  pub few_projects : length projects ≤ MAX_PROJECTS
  pub offered : All (λ p. p.0 < length supervisors) projects
  pub supervisor_quotas : All (λ q. q ≤ MAX_QUOTA) supervisors
  pub project_quotas : All (λ p. p.1 ≤ MAX_QUOTA) projects
