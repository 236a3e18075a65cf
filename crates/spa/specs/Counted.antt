-- How many pairs each project and each supervisor has, by position.
use Rattle.std.specs.Prelude.{◌≡◌, ℕ, ◌+◌, ◌==◌, cond, List, slice_index, Option}
use Rattle.spa.specs.Shape.{Shape}
use Rattle.spa.specs.Matched.{in_project, with_supervisor}

-- what a clause sees of counts: the number of pairs at each position, and 0 past the last
pub record Counted : Type 0 where
  pub projects : List ℕ
  pub supervisors : List ℕ

-- one more at a position
abbrev pub IsOneMoreAt : ℕ → List ℕ → List ℕ → Type 0
IsOneMoreAt n old new = (k : ℕ) → slice_index new k ≡ slice_index old k + cond (n == k) 1 0

-- one more pair is counted, with its project and its supervisor
pub record CountsPair (old new : Counted) (project supervisor : ℕ) : Type 0 where
  pub projects : IsOneMoreAt project old.projects new.projects
  pub supervisors : IsOneMoreAt supervisor old.supervisors new.supervisors

-- the counts are those of the pairs that places stand for
pub record AreCountsOf (i : Shape) (ks : List (Option ℕ)) (counts : Counted) : Type 0 where
  pub projects : (p : ℕ) → slice_index counts.projects p ≡ in_project i ks p
  pub supervisors : (l : ℕ) → slice_index counts.supervisors l ≡ with_supervisor i ks l
