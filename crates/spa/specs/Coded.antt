-- Matchings by codes: sets of pairs of codes over the finite maps of an instance.
use Rattle.std.specs.Prelude.{◌≡◌, ℕ, ◌+◌, ◌-◌, ◌≤◌, ◌==◌, not, List, [], ◌∷◌, length, count_by, All, Contains, pos, find, map, Option, Some, None}
use Rattle.std.specs.List.{prefix_len}
use Rattle.std.specs.Option.{option_map_or}
use Rattle.std.specs.Str.{bytes_eq}
use Rattle.spa.specs.declared.TheConstants.{RANKS}
use Rattle.spa.specs.declared.aim.Aim.{Aim}
use Rattle.spa.specs.Order.{Precedes, ranks_read}
use Rattle.spa.specs.Instance.{Instance, Supervisor, Project, Student}
use Rattle.spa.specs.Codes.{code_at}
use Rattle.spa.specs.Named.{Named, IsFit, instance_of}
use Rattle.spa.specs.Matching.{Pair, IsMatching, IsBest, profile}
use Rattle.spa.specs.Matched.{pairs, HasPlaces}

-- a student's and a project's code
pub record CodePair : Type 0 where
  pub student : List ℕ
  pub project : List ℕ

-- the projects that a student lists; who is not on the roll lists nothing
abbrev pub choices_of : Instance → List ℕ → List (List ℕ)
choices_of l code = option_map_or (λ (e : Student). e.list) (find (λ e. bytes_eq code e.code) l.students) []

-- who offers a project
abbrev pub offerer_of : Instance → List ℕ → List ℕ
offerer_of l code = option_map_or (λ (e : Project). e.supervisor) (find (λ e. bytes_eq code e.code) l.projects) []

-- how many pairs a project may have
abbrev pub places_in : Instance → List ℕ → ℕ
places_in l code = option_map_or (λ (e : Project). e.quota) (find (λ e. bytes_eq code e.code) l.projects) 0

-- how many pairs a supervisor may have
abbrev pub places_with : Instance → List ℕ → ℕ
places_with l code = option_map_or (λ (e : Supervisor). e.quota) (find (λ e. bytes_eq code e.code) l.supervisors) 0

-- M is a set of pairs of students with projects that they list, within all quotas
pub record IsMatchingByCodes (l : Instance) (M : List CodePair) : Type 0 where
  pub listed : All (λ e. Contains (choices_of l e.student) e.project) M
  pub student_once : (s : List ℕ) → count_by (λ e. bytes_eq s e.student) M ≤ 1
  pub project_within : (p : List ℕ) → count_by (λ e. bytes_eq p e.project) M ≤ places_in l p
  pub supervisor_within : (s : List ℕ) → count_by (λ e. bytes_eq s (offerer_of l e.project)) M ≤ places_with l s

-- one more than the number of projects before the pair's in the student's list
abbrev pub rank_by_codes : Instance → CodePair → ℕ
rank_by_codes l e = 1 + prefix_len (λ q. not (bytes_eq q e.project)) (choices_of l e.student)

-- how many pairs have rank 1, rank 2 and so on
abbrev pub profile_by_codes : Instance → List CodePair → ℕ → ℕ
profile_by_codes l M k = count_by (λ e. rank_by_codes l e == k + 1) M

-- no matching is larger, and none of the same size has a profile that comes after, as the aim reads profiles
pub record IsBestByCodes (aim : Aim) (l : Instance) (M : List CodePair) : Type 0 where
  pub matching : IsMatchingByCodes l M
  pub largest : (N : List CodePair) → IsMatchingByCodes l N → length N ≤ length M
  pub first : (N : List CodePair) → IsMatchingByCodes l N → length N ≡ length M
      → ¬ Precedes RANKS (ranks_read aim (λ k. pos (profile_by_codes l M k))) (ranks_read aim (λ k. pos (profile_by_codes l N k)))

-- the codes of a pair
abbrev pub codes_of : Named → Pair → CodePair
codes_of i e = record { student = code_at i.student_codes e.student; project = code_at i.project_codes e.project }

-- the pairs that places in the lists of students stand for, by codes
abbrev pub taken : List Student → List (Option ℕ) → List CodePair
taken [] ks = []
taken (s ∷ ss) [] = []
taken (s ∷ ss) (None ∷ ks) = taken ss ks
taken (s ∷ ss) (Some k ∷ ks) = record { student = s.code; project = code_at s.list (k - 1) } ∷ taken ss ks

-- what is said of matchings by positions and by codes is the same
pub record SaysTheSame (i : Named) : Type 0 where
  pub to_codes : (M : List Pair) → IsMatching i.shape M → IsMatchingByCodes (instance_of i) (map (codes_of i) M)
  pub from_codes : (N : List CodePair) → IsMatchingByCodes (instance_of i) N → (M : List Pair) × IsMatching i.shape M × (map (codes_of i) M ≡ N)
  pub profiles : (M : List Pair) → IsMatching i.shape M → (k : ℕ) → profile_by_codes (instance_of i) (map (codes_of i) M) k ≡ profile i.shape M k
  pub best_to_codes : (aim : Aim) (M : List Pair) → IsBest aim i.shape M → IsBestByCodes aim (instance_of i) (map (codes_of i) M)
  pub best_from_codes : (aim : Aim) (N : List CodePair) → IsBestByCodes aim (instance_of i) N
      → (M : List Pair) × IsBest aim i.shape M × (map (codes_of i) M ≡ N)
  pub same_pairs : (ks : List (Option ℕ)) → HasPlaces i.shape ks → map (codes_of i) (pairs i.shape ks) ≡ taken (instance_of i).students ks

-- so it is of each instance
abbrev pub CodesSayTheSame : Type 0
CodesSayTheSame = (i : Named) → IsFit i → SaysTheSame i
