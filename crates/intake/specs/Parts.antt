-- The parts of a text by codes: an aim, an instance, a place in the list or none for each student, and prices.
use Rattle.std.specs.Prelude.{◌≡◌, ℕ, ◌≤◌, ℤ, ◌⊎◌, List, [], length, Option, IfSome, IsTrue, All, AllPairs, Contains}
use Rattle.std.specs.List.{AllZip}
use Rattle.std.specs.declared.cmp.Ordering.TheVariants.{Less}
use Rattle.std.specs.declared.cmp.Ordering.{Ordering}
use Rattle.std.specs.Ordering.{nat_cmp}
use Rattle.std.specs.Cmp.Lexicographic.{slice_cmp}
use Rattle.spa.specs.declared.TheConstants.{COMPONENTS, RANKS}
use Rattle.spa.specs.declared.aim.Aim.{Aim}
use Rattle.spa.specs.Text.{is_code}
use Rattle.spa.specs.Shape.{IsPlaceOf}
use Rattle.spa.specs.Instance.{Instance, Student, supervisor_codes, project_codes, student_codes}
use Rattle.spa.specs.Made.{IsWithin, IsSoundUpTo}
use Rattle.verdict.specs.Rows.{EachInRange}
use Rattle.intake.specs.declared.section.Kind.{Kind}
use Rattle.intake.specs.declared.section.Kind.TheVariants.{Round, Public}

-- the aim, the instance, for each student the place in the list or none, and the prices, each of this many numbers
pub record Parts : Type 0 where
  pub aim : Aim
  pub instance : Instance
  pub places : List (Option ℕ)
  pub student_prices : List (List ℤ)
  pub project_prices : List (List ℤ)
  pub supervisor_prices : List (List ℤ)

-- codes come by their bytes
abbrev pub code_cmp : List ℕ → List ℕ → Ordering
code_cmp = slice_cmp nat_cmp

-- each code comes before all that stand after it
abbrev pub Rise : List (List ℕ) → Type 0
Rise codes = AllPairs (λ a b. code_cmp a b ≡ Less) codes

-- codes of the form, each before all that stand after it
pub record IsRoll (codes : List (List ℕ)) : Type 0 where
  pub form : All (λ c. IsTrue (is_code c)) codes
  pub rise : Rise codes

-- the student has no place, or one of the list
abbrev pub IsPlace : Student → Option ℕ → Type 0
IsPlace e place = IfSome place (IsPlaceOf e.list)

-- a price has a number for the size and one for each rank, each from -1,000,000 to 1,000,000
pub record IsPrice (v : List ℤ) : Type 0 where
  pub numbers : length v ≡ COMPONENTS
  pub range : EachInRange v

-- no price, or one for each of n entries
pub record ArePricesOrNone (n : ℕ) (vs : List (List ℤ)) : Type 0 where
  pub none_or_all : (length vs ≡ 0) ⊎ (length vs ≡ n)
  pub prices : All IsPrice vs

-- prices of the first of n entries
pub record ArePricesUpTo (n : ℕ) (vs : List (List ℤ)) : Type 0 where
  pub few : length vs ≤ n
  pub prices : All IsPrice vs

-- the fewest and the most projects that stand after a student's code: in a round the list, in a result what is assigned
abbrev pub least_listed : Kind → ℕ
least_listed Round = 1
least_listed Public = 0

abbrev pub most_listed : Kind → ℕ
most_listed Round = RANKS
most_listed Public = 1

-- that many known projects, none twice
abbrev pub IsListOf : Kind → List (List ℕ) → List (List ℕ) → Type 0
IsListOf k projects list = ((least_listed k ≤ length list) × (length list ≤ most_listed k)) × IsSoundUpTo projects list (length list)

-- the instance is within the limits, its codes rise, and what it refers to is known
pub record IsInstance (k : Kind) (i : Instance) : Type 0 where
  pub within : IsWithin i
  pub supervisors : IsRoll (supervisor_codes i)
  pub projects : IsRoll (project_codes i)
  pub students : IsRoll (student_codes i)
  pub offered : All (λ e. Contains (supervisor_codes i) e.supervisor) i.projects
  pub listed : All (λ e. IsListOf k (project_codes i) e.list) i.students

-- the instance is one of a round, each place is one of its list, and of each roll there is no price or one for each entry
pub record IsRoundParts (p : Parts) : Type 0 where
  pub instance : IsInstance Round p.instance
  pub places : AllZip IsPlace p.instance.students p.places
  pub student_prices : ArePricesOrNone (length p.instance.students) p.student_prices
  pub project_prices : ArePricesOrNone (length p.instance.projects) p.project_prices
  pub supervisor_prices : ArePricesOrNone (length p.instance.supervisors) p.supervisor_prices

-- in the place of a list stands what the student is assigned, and each project and supervisor without a price costs nothing
pub record IsPublicText (p : Parts) : Type 0 where
  pub instance : IsInstance Public p.instance
  pub places : p.places ≡ []
  pub student_prices : p.student_prices ≡ []
  pub project_prices : ArePricesUpTo (length p.instance.projects) p.project_prices
  pub supervisor_prices : ArePricesUpTo (length p.instance.supervisors) p.supervisor_prices

-- the parts of a text of a kind
abbrev pub ArePartsOf : Kind → Parts → Type 0
ArePartsOf Round p = IsRoundParts p
ArePartsOf Public p = IsPublicText p
