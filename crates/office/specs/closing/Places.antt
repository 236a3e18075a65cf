-- What places in the lists of a round make.
use Rattle.std.specs.Prelude.{◌≡◌, ◌-◌, ◌∷◌, ℕ, List, [], map, length, slice_get, slice_index_or, Option, Some, None}
use Rattle.office.specs.closing.Common.{IsPlaceOf, Instance, Named, instance_of, IsMatchingByCodes, IsBestByCodes, profile_by_codes, taken, Listed, Placement}
use Rattle.spa.specs.Codes.{code_at}
use Rattle.spa.specs.Named.{IsFit}
use Rattle.spa.specs.declared.aim.Aim.{Aim}
use Rattle.spa.specs.Matching.{IsBest, profile}
use Rattle.spa.specs.Matched.{pairs, IsMatched}

-- the placement of a student at a place of the list, from 1: the place is its rank
abbrev pub placed_at : ℕ → Listed → ℕ → Placement
placed_at round l k = record { student = l.student; round = round; project = code_at l.choices (k - 1); rank = k }

-- the placements that places in lists make
abbrev pub placed_by : ℕ → List Listed → List (Option ℕ) → List Placement
placed_by round [] ks = []
placed_by round (l ∷ ls) [] = []
placed_by round (l ∷ ls) (None ∷ ks) = placed_by round ls ks
placed_by round (l ∷ ls) (Some k ∷ ks) = placed_at round l k ∷ placed_by round ls ks

-- a place or none for each list, and each place is one of the list
pub record ArePlacesIn (ls : List Listed) (ks : List (Option ℕ)) : Type 0 where
  pub one_each : length ks ≡ length ls
  pub in_list : (s k : ℕ) → slice_get ks s ≡ Some (Some k) → IsPlaceOf (slice_index_or (map (λ l. l.choices) ls) s []) k

-- the places stand for a matching of this instance
pub record ArePlacesOf (l : Instance) (ks : List (Option ℕ)) : Type 0 where
  pub instance : Named
  pub fit : IsFit instance
  pub same : instance_of instance ≡ l
  pub matched : IsMatched instance.shape ks

-- the pairs that are taken at places in the lists of the instance l are those of a matching of i: a matching by codes, best by an
-- aim where that is, as large, and with the same profile
pub record AreTaken (i : Named) (l : Instance) (ks : List (Option ℕ)) : Type 0 where
  pub matching : IsMatchingByCodes l (taken l.students ks)
  pub best : (aim : Aim) → IsBest aim i.shape (pairs i.shape ks) → IsBestByCodes aim l (taken l.students ks)
  pub size : length (taken l.students ks) ≡ length (pairs i.shape ks)
  pub profile : (k : ℕ) → profile_by_codes l (taken l.students ks) k ≡ profile i.shape (pairs i.shape ks) k
