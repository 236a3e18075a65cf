-- Rolls as they were read, and as they are posted.
use Rattle.std.specs.Prelude.{◌≡◌, ℕ, ◌<◌, List, length, map, Option, IfSome, All}
use Rattle.spa.specs.Codes.{code_at}
use Rattle.intake.specs.Public.{assigned_list}

-- codes and quotas of these supervisors
pub record ArePostedSupervisors (roll : List (List ℕ × ℕ)) (codes : List (List ℕ)) (quotas : List ℕ) : Type 0 where
  pub code : codes ≡ map (λ e. e.0) roll
  pub quota : quotas ≡ map (λ e. e.1) roll

-- codes, supervisors by position and quotas of these projects
pub record ArePostedProjects (known : List (List ℕ)) (roll : List (List ℕ × List ℕ × ℕ)) (codes : List (List ℕ)) (offers : List (ℕ × ℕ)) : Type 0 where
  pub code : codes ≡ map (λ e. e.0) roll
  pub owner : map (λ p. code_at known p.0) offers ≡ map (λ e. e.1) roll
  pub quota : map (λ p. p.1) offers ≡ map (λ e. e.2) roll
  pub within : All (λ p. p.0 < length known) offers

-- codes of students with these names and lists, and by position what each is assigned
pub record ArePostedStudents (known names : List (List ℕ)) (lists : List (List (List ℕ))) (codes : List (List ℕ)) (assigned : List (Option ℕ)) : Type 0 where
  pub code : codes ≡ names
  pub list : map (λ t. map (code_at known) (assigned_list t)) assigned ≡ lists
  pub within : All (λ t. IfSome t (λ p. p < length known)) assigned
