-- For proofs alone. The rolls that the parts of an office give.
use Rattle.std.specs.Prelude.{◌≡◌, ◌-◌, ℕ, List, Option, map}
use Rattle.office.specs.closing.Common.{Supervisor, Project, Listed, Placement, AreCounted, count_in, count_with}
use Rattle.spa.specs.Counted.{Counted}

-- a supervisor with the quota less what such rounds placed
abbrev pub supervisor_left : Option ℕ → List Project → List Placement → Supervisor → List ℕ × ℕ
supervisor_left up_to projects placements s = (s.code, s.quota - count_with up_to projects placements s.code)

-- a project with the quota less what such rounds placed
abbrev pub project_left : Option ℕ → List Placement → Project → List ℕ × List ℕ × ℕ
project_left up_to placements p = (p.code, p.supervisor, p.quota - count_in up_to placements p.code)

-- the supervisors with their quotas less what is counted, whatever these counts count
abbrev pub AreSupervisorsLeft : List Supervisor → Counted → List (List ℕ × ℕ) → Type 0
AreSupervisorsLeft supervisors counts roll =
    (up_to : Option ℕ) (projects : List Project) (placements : List Placement) → AreCounted up_to supervisors projects placements counts
    → roll ≡ map (supervisor_left up_to projects placements) supervisors

-- the same of the projects
abbrev pub AreProjectsLeft : List Project → Counted → List (List ℕ × List ℕ × ℕ) → Type 0
AreProjectsLeft projects counts roll =
    (up_to : Option ℕ) (supervisors : List Supervisor) (placements : List Placement) → AreCounted up_to supervisors projects placements counts
    → roll ≡ map (project_left up_to placements) projects

-- a student with the choices of the list
abbrev pub student_listed : Listed → List ℕ × List (List ℕ)
student_listed l = (l.student, l.choices)
