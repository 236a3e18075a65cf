-- The matchings of an instance, their profiles and total weights, and which of them are best.
use Rattle.std.specs.Prelude.{◌≡◌, ℕ, zero, suc, ◌+◌, ◌≤◌, ◌==◌, not, List, [], ◌∷◌, length, count_by, All, Contains, pos, ℤ, Option, Some, None, cond}
use Rattle.std.specs.List.{prefix_len}
use Rattle.spa.specs.declared.TheConstants.{RANKS}
use Rattle.spa.specs.declared.aim.Aim.{Aim}
use Rattle.spa.specs.Order.{RowOrder, Precedes, ranks_read}
use Rattle.spa.specs.Shape.{Shape, list_of, choice_at, supervisor_of, project_quota, supervisor_quota}

-- a student and a project
pub record Pair : Type 0 where
  pub student : ℕ
  pub project : ℕ

-- M is a set of pairs of students with projects that they list, within all quotas; its order does not count, and a
-- student is in one pair at most
pub record IsMatching (i : Shape) (M : List Pair) : Type 0 where
  pub listed : All (λ e. Contains (list_of i e.student) e.project) M
  pub student_once : (s : ℕ) → count_by (λ e. e.student == s) M ≤ 1
  pub project_within : (p : ℕ) → count_by (λ e. e.project == p) M ≤ project_quota i p
  pub supervisor_within : (l : ℕ) → count_by (λ e. supervisor_of i e.project == l) M ≤ supervisor_quota i l

-- one more than the number of projects before p in the list
abbrev pub rank_in : List ℕ → ℕ → ℕ
rank_in xs p = 1 + prefix_len (λ q. not (q == p)) xs

-- the rank of a pair's project in its student's list
abbrev pub rank : Shape → Pair → ℕ
rank i e = rank_in (list_of i e.student) e.project

-- how many pairs have rank 1, rank 2 and so on
abbrev pub profile : Shape → List Pair → ℕ → ℕ
profile i M k = count_by (λ e. rank i e == k + 1) M

-- the weight of a pair of rank r, by place: 1 for the size, and 1 at the rank
abbrev pub weight : ℕ → ℕ → ℕ
weight r zero = 1
weight r (suc k) = cond (r == k + 1) 1 0

-- by place: the size, then the profile
abbrev pub total_weight : Shape → List Pair → ℕ → ℕ
total_weight i M zero = length M
total_weight i M (suc k) = profile i M k

-- the same as a row
abbrev pub weight_row : Shape → List Pair → ℕ → ℤ
weight_row i M t = pos (total_weight i M t)

-- a matching whose total weight comes before that of no other matching
pub record IsUnbeaten (order : RowOrder) (i : Shape) (M : List Pair) : Type 0 where
  pub matching : IsMatching i M
  pub unbeaten : (N : List Pair) → IsMatching i N → ¬ order (weight_row i M) (weight_row i N)

-- no matching is larger, and none of the same size has a profile that comes after, as the aim reads profiles: a greedy
-- maximum matching by the greedy aim, a generous maximum one by the generous
pub record IsBest (aim : Aim) (i : Shape) (M : List Pair) : Type 0 where
  pub matching : IsMatching i M
  pub largest : (N : List Pair) → IsMatching i N → length N ≤ length M
  pub first : (N : List Pair) → IsMatching i N → length N ≡ length M
      → ¬ Precedes RANKS (ranks_read aim (λ k. pos (profile i M k))) (ranks_read aim (λ k. pos (profile i N k)))

-- the pairs of places in lists, from the student n on
abbrev pub pairs_from : ℕ → List (List ℕ) → List (Option ℕ) → List Pair
pairs_from n [] ks = []
pairs_from n (xs ∷ xss) [] = []
pairs_from n (xs ∷ xss) (None ∷ ks) = pairs_from (suc n) xss ks
pairs_from n (xs ∷ xss) (Some k ∷ ks) = record { student = n; project = choice_at xs k } ∷ pairs_from (suc n) xss ks
