-- The parts of a text as far as it was read.
use Rattle.std.specs.Prelude.{◌≡◌, true, false, ◌==◌, ℕ, ◌≤◌, ◌⊎◌, ℤ, List, [], ◌∷◌, length, map, Option, All, Result, Ok, Err, ⊤}
use Rattle.spa.specs.declared.aim.Aim.TheVariants.{Greedy}
use Rattle.spa.specs.Instance.{given}
use Rattle.intake.specs.declared.draft.PartialRound.{PartialRound}
use Rattle.intake.specs.declared.section.Kind.{Kind}
use Rattle.intake.specs.declared.section.Kind.TheVariants.{Round, Public}
use Rattle.intake.specs.Parts.{Parts, IsInstance, IsPlace, IsPrice}
use Rattle.intake.specs.declared.TheConstants.{MAX_BYTES}
use Rattle.intake.specs.declared.round.RoundFault.{RoundFault}
use Rattle.intake.specs.Lines.{Priced, has_line, priced, text_of}
use Rattle.intake.specs.Reading.{IsFaultOf}

-- the parts that were read
abbrev pub draft_of : PartialRound → Parts
draft_of d = record {
  aim = d.aim;
  instance = given d.supervisors.items d.projects.items (map (λ e. (e.0, e.1.items)) d.students.items);
  places = d.places.items;
  student_prices = d.prices.students.items;
  project_prices = d.prices.projects.items;
  supervisor_prices = d.prices.supervisors.items;
}

-- what the first entries have fits them
abbrev pub AreFirst : {E X : Type 0} → (E → X → Type 0) → List E → List X → Type 0
AreFirst Fits es [] = ⊤
AreFirst Fits [] (x ∷ xs) = ⊥
AreFirst Fits (e ∷ es) (x ∷ xs) = Fits e x × AreFirst Fits es xs

-- a price has a line
abbrev pub HasLine : Kind → List ℤ → Type 0
HasLine k v = has_line k v ≡ true

-- no price, or one for each of n entries
abbrev pub NoneOrAll : ℕ → List (List ℤ) → Type 0
NoneOrAll n vs = (length vs ≡ 0) ⊎ (length vs ≡ n)

-- prices of n entries after which those of the next roll may come
abbrev pub IsCompleted : Kind → ℕ → List (List ℤ) → Type 0
IsCompleted Round n vs = NoneOrAll n vs
IsCompleted Public n vs = ⊤

-- no price of the rolls was read
abbrev pub AreUnpriced : List Priced → Type 0
AreUnpriced [] = ⊤
AreUnpriced (s ∷ ss) = (s.prices ≡ []) × AreUnpriced ss

-- the prices of each roll are complete
abbrev pub AreComplete : Kind → List Priced → Type 0
AreComplete k [] = ⊤
AreComplete k (s ∷ ss) = IsCompleted k (length s.codes) s.prices × AreComplete k ss

-- the prices of each roll are those of its first entries, and complete where prices of a later roll were read
abbrev pub ArePricedInOrder : Kind → List Priced → Type 0
ArePricedInOrder k [] = ⊤
ArePricedInOrder k (s ∷ ss) = AreFirst (λ c. IsPrice) s.codes s.prices × (AreUnpriced ss ⊎ IsCompleted k (length s.codes) s.prices) × ArePricedInOrder k ss

-- no student of a result has a place or a price
abbrev pub IsBare : Kind → List (Option ℕ) → List (List ℤ) → Type 0
IsBare Round places prices = ⊤
IsBare Public places prices = (places ≡ []) × (prices ≡ [])

-- parts that more lines may complete
pub record IsDraft (k : Kind) (p : Parts) : Type 0 where
  pub instance : IsInstance k p.instance
  pub places : AreFirst IsPlace p.instance.students p.places
  pub prices : ArePricedInOrder k (priced p)
  pub bare : IsBare k p.places p.student_prices

-- a text may end here
abbrev pub IsWhole : Kind → Parts → Type 0
IsWhole k p = AreComplete k (priced p)

-- no price was read
abbrev pub HasNoPrices : Parts → Type 0
HasNoPrices p = AreUnpriced (priced p)

-- nothing was read
abbrev pub nothing : Parts
nothing = record {
  aim = Greedy;
  instance = record { supervisors = []; projects = []; students = [] };
  places = [];
  student_prices = [];
  project_prices = [];
  supervisor_prices = [];
}

-- the byte c does not stand in a text
abbrev pub IsFree : ℕ → List ℕ → Type 0
IsFree c text = All (λ b. (b == c) ≡ false) text

-- the text is that of a draft that may end here, or the fault is its own
abbrev pub IsDraftReading : Kind → List ℕ → Result PartialRound RoundFault → Type 0
IsDraftReading k text (Ok d) = IsDraft k (draft_of d) × IsWhole k (draft_of d) × (text ≡ text_of k (draft_of d)) × (length text ≤ MAX_BYTES)
IsDraftReading k text (Err fault) = IsFaultOf k text fault
