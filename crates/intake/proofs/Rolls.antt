-- Rolls of entries with codes, as the code keeps them and by codes.
use Rattle.std.proofs.Common.{◌≡◌, ℕ, ◌<◌, List, length, map, slice_get, Some, Vec, Global, Contains, ◌∙◌, subst}
use Rattle.intake.proofs.Common.{slice_get_at, length-map, map-map, Code, supervisors_of, projects_of, students_of, IsListOf, Kind, ComesNext}

-- the codes of supervisors
pub supervisor_keys : (es : List (List ℕ × ℕ)) → map (λ e. e.code) (supervisors_of es) ≡ map (λ e. e.0) es
supervisor_keys es = map-map _ _ es

-- the codes of projects
pub project_keys : (es : List (List ℕ × List ℕ × ℕ)) → map (λ e. e.code) (projects_of es) ≡ map (λ e. e.0) es
project_keys es = map-map _ _ es

-- the codes of students
pub student_keys : (es : List (List ℕ × Vec Code Global)) → map (λ e. e.code) (students_of (map (λ e. (e.0, e.1.items)) es)) ≡ map (λ e. e.0) es
student_keys es = map-map _ _ (map (λ e. (e.0, e.1.items)) es) ∙ map-map _ _ es

-- a code that is contained stands somewhere
pub standing : (codes : List (List ℕ)) (code : List ℕ) → Contains codes code → (p : ℕ) × (p < length codes) × (slice_get codes p ≡ Some code)
standing codes code h = (h.0, h.1, slice_get_at codes h.0 code code h.1 h.2)

-- a code that comes next, said of the same codes
pub comes_moved : (most : ℕ) (a b : List (List ℕ)) (x y : List ℕ) → a ≡ b → x ≡ y → ComesNext most a x → ComesNext most b y
comes_moved most a b x y e f next = subst (λ (l : List (List ℕ)). ComesNext most l y) e (subst (λ (z : List ℕ). ComesNext most a z) f next)

-- students by codes are as many
pub student_count : (es : List (List ℕ × Vec Code Global)) → length (students_of (map (λ e. (e.0, e.1.items)) es)) ≡ length es
student_count es = length-map (map (λ e. (e.0, e.1.items)) es) _ ∙ length-map es _

-- a sound list, said of the same codes
pub sound_moved : (k : Kind) (a b x y : List (List ℕ)) → a ≡ b → x ≡ y → IsListOf k a x → IsListOf k b y
sound_moved k a b x y e f sound = subst (λ (l : List (List ℕ)). IsListOf k l y) e (subst (λ (l : List (List ℕ)). IsListOf k a l) f sound)
