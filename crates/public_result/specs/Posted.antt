-- A result that is posted without lists: what each student is assigned, and prices of projects and supervisors. What everybody
-- checks of it, and what each student checks with the own list.
use Rattle.std.specs.Prelude.{◌≡◌, ◌≢◌, ℕ, suc, ◌<◌, ◌≤◌, ◌==◌, ℤ, pos, ◌-ℤ◌, List, [], ◌∷◌, length, slice_index_or, All, AllPairs, Contains, count_by, map, Option, Some, None}
use Rattle.spa.specs.declared.TheConstants.{COMPONENTS, RANKS, MAX_SUPERVISORS, MAX_PROJECTS, MAX_STUDENTS}
use Rattle.spa.specs.declared.aim.Aim.{Aim}
use Rattle.spa.specs.Order.{RowOrder, none, order, plus}
use Rattle.spa.specs.Row.{at}
use Rattle.spa.specs.Shape.{Shape, IsPlaceOf, IsSound, choice_at, supervisor_of, project_quota, supervisor_quota}
use Rattle.spa.specs.Matched.{IsMatched, pairs}
use Rattle.spa.specs.Named.{Named, IsFit, IsWithinLimits, instance_of}
use Rattle.spa.specs.Coded.{IsBestByCodes, codes_of}
use Rattle.spa.specs.Matching.{Pair, IsBest, rank_in, weight}
use Rattle.verdict.specs.Rows.{price, AllInRange, AreNotBelowZero}
use Rattle.verdict.specs.Verdict.{IsProvedBest}
use Rattle.verdict.specs.declared.prices.Prices.{Prices}
use Rattle.public_result.specs.declared.posted.Posted.{Posted}
use Rattle.public_result.specs.declared.public.PublicFault.{PublicFault}
use Rattle.public_result.specs.declared.public.PublicFault.TheVariants.{NotMatching, Shape as NoShape, Below, Room}
use Rattle.public_result.specs.declared.own.OwnFault.{OwnFault}
use Rattle.public_result.specs.declared.own.OwnFault.TheVariants.{List as NoList, NotListed, Dear, Better}

-- the posted rolls with these lists of the students
abbrev pub with_lists : Posted → List (List ℕ) → Shape
with_lists t lists = record { supervisors = t.supervisors.items; projects = t.projects.items; students = lists }

-- the pairs of the students from n on
abbrev pub assigned_pairs : ℕ → List (Option ℕ) → List Pair
assigned_pairs n [] = []
assigned_pairs n (None ∷ ps) = assigned_pairs (suc n) ps
assigned_pairs n (Some p ∷ ps) = record { student = n; project = p } ∷ assigned_pairs (suc n) ps

-- the pairs that are posted
abbrev pub assigned : Posted → List Pair
assigned t = assigned_pairs 0 t.students.items

-- who offers a project
abbrev pub offerer : Posted → ℕ → ℕ
offerer t p = supervisor_of (with_lists t []) p

-- how many are assigned a project
abbrev pub in_project : Posted → ℕ → ℕ
in_project t p = count_by (λ e. e.project == p) (assigned t)

-- how many are assigned a project of a supervisor
abbrev pub with_supervisor : Posted → ℕ → ℕ
with_supervisor t l = count_by (λ e. offerer t e.project == l) (assigned t)

-- by place: what a place in a project costs: the project's price and its supervisor's
abbrev pub cost : Posted → ℕ → ℕ → ℤ
cost t p = plus (price t.project_prices.items p) (price t.supervisor_prices.items (offerer t p))

-- by place: what a project at rank r is worth to a student: what the pair weighs, less the cost
abbrev pub worth : Posted → ℕ → ℕ → ℕ → ℤ
worth t r p k = pos (weight r k) -ℤ cost t p k

-- by place: what a student with this list has by what is assigned: nothing without a project
abbrev pub holding : Posted → List ℕ → Option ℕ → ℕ → ℤ
holding t list None = none
holding t list (Some p) = worth t (rank_in list p) p

-- a list of 1 to RANKS distinct projects that are posted
pub record IsList (t : Posted) (list : List ℕ) : Type 0 where
  pub ranked : 0 < length list
  pub within : length list ≤ RANKS
  pub known : All (λ p. p < length t.projects.items) list
  pub distinct : AllPairs (λ p q. p ≢ q) list

-- what a student checks: the project that is assigned stands in the own list, and at the prices neither going without nor
-- another project of the list is worth more
pub record IsContent (order : RowOrder) (t : Posted) (list : List ℕ) (project : Option ℕ) : Type 0 where
  pub sound : IsList t list
  pub listed : (p : ℕ) → project ≡ Some p → Contains list p
  pub not_below : ¬ order (holding t list project) none
  pub unbeaten : (p : ℕ) → Contains list p → ¬ order (holding t list project) (worth t (rank_in list p) p)

-- known supervisors offer the projects, known projects are assigned, and no roll is too long
pub record IsKnown (t : Posted) : Type 0 where
  pub supervisors : length t.supervisors.items ≤ MAX_SUPERVISORS
  pub projects : length t.projects.items ≤ MAX_PROJECTS
  pub students : length t.students.items ≤ MAX_STUDENTS
  pub offered : All (λ p. p.0 < length t.supervisors.items) t.projects.items
  pub known : (s p : ℕ) → s < length t.students.items → slice_index_or t.students.items s None ≡ Some p → p < length t.projects.items

-- there is a price for each project and each supervisor, within the limits
pub record HasPrices (t : Posted) : Type 0 where
  pub project_prices : length t.project_prices.items ≡ length t.projects.items
  pub supervisor_prices : length t.supervisor_prices.items ≡ length t.supervisors.items
  pub projects_range : AllInRange t.project_prices.items
  pub supervisors_range : AllInRange t.supervisor_prices.items

-- no project and no supervisor has more than the quota
pub record IsWithinQuotas (t : Posted) : Type 0 where
  pub projects : (p : ℕ) → p < length t.projects.items → in_project t p ≤ project_quota (with_lists t []) p
  pub supervisors : (l : ℕ) → l < length t.supervisors.items → with_supervisor t l ≤ supervisor_quota (with_lists t []) l

-- what is assigned is a matching, whatever lists it stands in: of known projects, and within each quota
pub record IsPlaced (t : Posted) : Type 0 where
  pub known : IsKnown t
  pub within : IsWithinQuotas t

-- no price comes before zero
pub record IsNotBelow (order : RowOrder) (t : Posted) : Type 0 where
  pub projects : AreNotBelowZero order t.project_prices.items
  pub supervisors : AreNotBelowZero order t.supervisor_prices.items

-- the array has the numbers of a row
abbrev pub IsRow : List ℤ → (ℕ → ℤ) → Type 0
IsRow xs v = (k : ℕ) → k < COMPONENTS → at xs k ≡ v k

-- a price of nothing
abbrev pub IsNothing : (ℕ → ℤ) → Type 0
IsNothing v = (k : ℕ) → k < COMPONENTS → v k ≡ pos 0

-- what has room costs nothing
pub record IsRoomFree (t : Posted) : Type 0 where
  pub projects : (p : ℕ) → p < length t.projects.items → in_project t p < project_quota (with_lists t []) p → IsNothing (price t.project_prices.items p)
  pub supervisors : (l : ℕ) → l < length t.supervisors.items → with_supervisor t l < supervisor_quota (with_lists t []) l → IsNothing (price t.supervisor_prices.items l)

-- what everybody checks: nobody is over a quota, no price is below zero, and what has room is free
pub record IsCleared (order : RowOrder) (t : Posted) : Type 0 where
  pub placed : IsPlaced t
  pub prices : HasPrices t
  pub not_below : IsNotBelow order t
  pub free : IsRoomFree t

-- each student, with the own list, is content
pub record AreContent (order : RowOrder) (t : Posted) (lists : List (List ℕ)) : Type 0 where
  pub one_each : length lists ≡ length t.students.items
  pub each : (s : ℕ) → s < length lists → IsContent order t (slice_index_or lists s []) (slice_index_or t.students.items s None)

-- the main law: where everybody's check and each student's accept, what is posted is best, whatever the lists are
abbrev pub PostedIsBest : Type 0
PostedIsBest = (aim : Aim) (t : Posted) (lists : List (List ℕ)) → IsCleared (order aim) t → AreContent (order aim) t lists → IsBest aim (with_lists t lists) (assigned t)

-- the same of the instance by codes
abbrev pub PostedIsBestByCodes : Type 0
PostedIsBestByCodes = (aim : Aim) (t : Posted) (i : Named) → IsFit i → i.shape ≡ with_lists t i.shape.students
    → IsCleared (order aim) t → AreContent (order aim) t i.shape.students → IsBestByCodes aim (instance_of i) (map (codes_of i) (assigned t))

-- what students with these lists are assigned by these places
abbrev pub chosen : List (List ℕ) → List (Option ℕ) → List (Option ℕ)
chosen [] ks = []
chosen (xs ∷ xss) [] = []
chosen (xs ∷ xss) (None ∷ ks) = None ∷ chosen xss ks
chosen (xs ∷ xss) (Some k ∷ ks) = Some (choice_at xs k) ∷ chosen xss ks

-- what is posted is a matching with its prices but for those of the students, which nobody needs
pub record IsPostOf (t : Posted) (lists : List (List ℕ)) (ks : List (Option ℕ)) (p : Prices) : Type 0 where
  pub students : t.students.items ≡ chosen lists ks
  pub project_prices : t.project_prices.items ≡ p.projects.items
  pub supervisor_prices : t.supervisor_prices.items ≡ p.supervisors.items

-- the other way round: what is posted of a matching that prices prove best is accepted by everybody's check and by each
-- student's own
abbrev pub PostsAreAccepted : Type 0
PostsAreAccepted = (aim : Aim) (t : Posted) (lists : List (List ℕ)) (ks : List (Option ℕ)) (p : Prices)
    → IsSound (with_lists t lists) → IsWithinLimits (with_lists t lists) → IsProvedBest (order aim) (with_lists t lists) ks p → IsPostOf t lists ks p
    → IsCleared (order aim) t × AreContent (order aim) t lists

-- the fault names the first condition of everybody's check that fails
abbrev pub IsFirstFailure : RowOrder → Posted → PublicFault → Type 0
IsFirstFailure order t NotMatching = ¬ IsPlaced t
IsFirstFailure order t NoShape = IsPlaced t × (¬ HasPrices t)
IsFirstFailure order t Below = IsPlaced t × HasPrices t × (¬ IsNotBelow order t)
IsFirstFailure order t Room = IsPlaced t × HasPrices t × IsNotBelow order t × (¬ IsRoomFree t)

-- what is assigned stands in the list
abbrev pub IsListed : List ℕ → Option ℕ → Type 0
IsListed list project = (p : ℕ) → project ≡ Some p → Contains list p

-- the place is the first of the list whose project is worth more than v
pub record IsFirstBetter (order : RowOrder) (t : Posted) (list : List ℕ) (v : ℕ → ℤ) (k : ℕ) : Type 0 where
  pub place : IsPlaceOf list k
  pub more : order v (worth t k (choice_at list k))
  pub before : (j : ℕ) → 1 ≤ j → j < k → ¬ order v (worth t j (choice_at list j))

-- the fault names the first condition of a student's own check that fails
abbrev pub IsFirstOwnFailure : RowOrder → Posted → List ℕ → Option ℕ → OwnFault → Type 0
IsFirstOwnFailure order t list project NoList = ¬ IsList t list
IsFirstOwnFailure order t list project NotListed = IsList t list × (¬ IsListed list project)
IsFirstOwnFailure order t list project Dear = IsList t list × IsListed list project × order (holding t list project) none
IsFirstOwnFailure order t list project (Better k) =
    IsList t list × IsListed list project × (¬ order (holding t list project) none) × IsFirstBetter order t list (holding t list project) k

-- what a student with this list is assigned by a place
abbrev pub assigned_at : List ℕ → Option ℕ → Option ℕ
assigned_at xs None = None
assigned_at xs (Some k) = Some (choice_at xs k)

-- prices that prove one matching best prove each best matching
abbrev pub PricesServeAll : Type 0
PricesServeAll = (aim : Aim) (i : Shape) (ks js : List (Option ℕ)) (p : Prices)
    → IsSound i → IsProvedBest (order aim) i ks p → IsMatched i js → IsBest aim i (pairs i js) → IsProvedBest (order aim) i js p
