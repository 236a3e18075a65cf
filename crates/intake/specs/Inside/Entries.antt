-- What a line may add to the parts that were read, section by section.
use Rattle.std.specs.Prelude.{◌≡◌, Bool, true, false, replicate, ◌-◌, ℕ, ◌<◌, ◌≤◌, ℤ, pos, List, [], ◌∷◌, ◌++◌, length, map, slice_get, codes, Option, None, Some, IsTrue, Contains}
use Rattle.spa.specs.declared.aim.Aim.{Aim}
use Rattle.spa.specs.declared.TheConstants.{COMPONENTS, MAX_SUPERVISORS, MAX_PROJECTS, MAX_STUDENTS, MAX_QUOTA}
use Rattle.spa.specs.Text.{is_code}
use Rattle.spa.specs.Instance.{Supervisor, Project, Student, supervisor_codes, project_codes, student_codes}
use Rattle.intake.specs.declared.section.Kind.{Kind}
use Rattle.intake.specs.declared.section.Kind.TheVariants.{Round, Public}
use Rattle.intake.specs.declared.section.SectionName.{SectionName}
use Rattle.intake.specs.declared.section.SectionName.TheVariants.{Aims, Supervisors, Projects, Students, Pairs, StudentPrices, ProjectPrices, SupervisorPrices}
use Rattle.intake.specs.Parts.{Parts, Rise, IsListOf, IsPlace, IsPrice}
use Rattle.intake.specs.Lines.{Row, aim_rows, supervisor_row, project_row, student_letter, student_row, pair_row, price_row}
use Rattle.intake.specs.Inside.PartialRound.{HasNoPrices, IsCompleted}

-- the letter of a section's lines
abbrev pub letter_of : Kind → SectionName → List ℕ
letter_of k Aims = codes "A"
letter_of k Supervisors = codes "S"
letter_of k Projects = codes "P"
letter_of k Students = student_letter k
letter_of k Pairs = codes "M"
letter_of k StudentPrices = codes "U"
letter_of k ProjectPrices = codes "Y"
letter_of k SupervisorPrices = codes "Z"

-- the code has the form and may come next on a roll of at most this many
pub record ComesNext (most : ℕ) (roll : List (List ℕ)) (code : List ℕ) : Type 0 where
  pub form : IsTrue (is_code code)
  pub few : length roll < most
  pub next : Rise (roll ++ code ∷ [])

-- the rows of the new aim are those of the old one and this row
abbrev pub NextAim : Aim → Row → Aim → Type 0
NextAim old row new = aim_rows new ≡ aim_rows old ++ row ∷ []

-- the row is that of the next entry of a roll of at most this many, which fits
pub record NextEntry {X : Type 0} (of : X → Row) (key : X → List ℕ) (most : ℕ) (Fits : X → Type 0) (roll : List X) (row : Row) (e : X) : Type 0 where
  pub is : row ≡ of e
  pub code : ComesNext most (map key roll) (key e)
  pub fits : Fits e

-- of the next supervisor
abbrev pub NextSupervisor : Parts → Row → Supervisor → Type 0
NextSupervisor p row e = NextEntry supervisor_row (λ e. e.code) MAX_SUPERVISORS (λ e. e.quota ≤ MAX_QUOTA) p.instance.supervisors row e

-- of the next project, whose supervisor is known
abbrev pub NextProject : Parts → Row → Project → Type 0
NextProject p row e = NextEntry project_row (λ e. e.code) MAX_PROJECTS (λ e. Contains (supervisor_codes p.instance) e.supervisor × (e.quota ≤ MAX_QUOTA)) p.instance.projects row e

-- of the next student
abbrev pub NextStudent : Kind → Parts → Row → Student → Type 0
NextStudent k p row e = NextEntry student_row (λ e. e.code) MAX_STUDENTS (λ e. IsListOf k (project_codes p.instance) e.list) p.instance.students row e

-- the row is that of what the entry at position n has, which is after those that had their turn
pub record NextPosition {E X : Type 0} (of : E → X → Option Row) (Fits : E → X → Type 0) (After : ℕ → ℕ → Type 0) (es : List E) (xs : List X) (row : Row) (n : ℕ) (x : X) : Type 0 where
  pub entry : E
  pub here : slice_get es n ≡ Some entry
  pub later : After (length xs) n
  pub fits : Fits entry x
  pub is : of entry x ≡ Some row

-- of the place of a student who is after those that had their turn
abbrev pub NextPair : Parts → Row → ℕ × Option ℕ → Type 0
NextPair p row e = NextPosition pair_row IsPlace (λ m n. m ≤ n) p.instance.students p.places row e.0 e.1

-- after prices of m entries that of the entry at position n may come: of the next, or in a result of any later one
abbrev pub StandsAfter : Kind → ℕ → ℕ → Type 0
StandsAfter Round m n = n ≡ m
StandsAfter Public m n = m ≤ n

-- the row is that of the next price of some codes
abbrev pub NextPrice : Kind → List (List ℕ) → List (List ℤ) → Row → ℕ × List ℤ → Type 0
NextPrice k codes prices row e = NextPosition (price_row k) (λ c. IsPrice) (StandsAfter k) codes prices row e.0 e.1

-- what a line of a section adds: of a pair or a price also the position
abbrev pub Entry : SectionName → Type 0
Entry Aims = Aim
Entry Supervisors = Supervisor
Entry Projects = Project
Entry Students = Student
Entry Pairs = ℕ × Option ℕ
Entry StudentPrices = ℕ × List ℤ
Entry ProjectPrices = ℕ × List ℤ
Entry SupervisorPrices = ℕ × List ℤ

-- no pair and no price was read
abbrev pub HasNoPairs : Parts → Type 0
HasNoPairs p = (p.places ≡ []) × HasNoPrices p

-- no student either
abbrev pub HasNoStudents : Parts → Type 0
HasNoStudents p = (p.instance.students ≡ []) × HasNoPairs p

-- nor a project
abbrev pub HasNoProjects : Parts → Type 0
HasNoProjects p = (p.instance.projects ≡ []) × HasNoStudents p

-- a line of the section may come: no later section has begun, and the prices of the rolls before are complete
abbrev pub MayComeNext : Kind → SectionName → Parts → Type 0
MayComeNext k Aims p = (p.instance.supervisors ≡ []) × HasNoProjects p
MayComeNext k Supervisors p = HasNoProjects p
MayComeNext k Projects p = HasNoStudents p
MayComeNext k Students p = HasNoPairs p
MayComeNext k Pairs p = (k ≡ Round) × HasNoPrices p
MayComeNext k StudentPrices p = (k ≡ Round) × (p.project_prices ≡ []) × (p.supervisor_prices ≡ [])
MayComeNext k ProjectPrices p = IsCompleted k (length (student_codes p.instance)) p.student_prices × (p.supervisor_prices ≡ [])
MayComeNext k SupervisorPrices p = IsCompleted k (length (student_codes p.instance)) p.student_prices × IsCompleted k (length (project_codes p.instance)) p.project_prices

-- the row is that of the entry, which comes next in the section
abbrev pub IsNext : Kind → (s : SectionName) → Parts → Row → Entry s → Type 0
IsNext k Aims p row aim = NextAim p.aim row aim
IsNext k Supervisors p row e = NextSupervisor p row e
IsNext k Projects p row e = NextProject p row e
IsNext k Students p row e = NextStudent k p row e
IsNext k Pairs p row e = NextPair p row e
IsNext k StudentPrices p row e = NextPrice k (student_codes p.instance) p.student_prices row e
IsNext k ProjectPrices p row e = NextPrice k (project_codes p.instance) p.project_prices row e
IsNext k SupervisorPrices p row e = NextPrice k (supervisor_codes p.instance) p.supervisor_prices row e

-- a price of nothing
abbrev pub zeros : List ℤ
zeros = replicate COMPONENTS (pos 0)

-- one more at a position: those between the last and this one have nothing
abbrev pub added : {X : Type 0} → X → List X → ℕ × X → List X
added blank xs e = xs ++ replicate (e.0 - length xs) blank ++ e.1 ∷ []

-- one entry more
abbrev pub with_entry : (s : SectionName) → Parts → Entry s → Parts
with_entry Aims p aim = record p { aim = aim }
with_entry Supervisors p e = record p { instance = record p.instance { supervisors = p.instance.supervisors ++ e ∷ [] } }
with_entry Projects p e = record p { instance = record p.instance { projects = p.instance.projects ++ e ∷ [] } }
with_entry Students p e = record p { instance = record p.instance { students = p.instance.students ++ e ∷ [] } }
with_entry Pairs p e = record p { places = added None p.places e }
with_entry StudentPrices p e = record p { student_prices = added zeros p.student_prices e }
with_entry ProjectPrices p e = record p { project_prices = added zeros p.project_prices e }
with_entry SupervisorPrices p e = record p { supervisor_prices = added zeros p.supervisor_prices e }

-- one of what may come was added, or nothing may come
abbrev pub AddsOne : {E A : Type 0} → (E → Type 0) → (E → A) → A → Bool → Type 0
AddsOne {E = E} May more new true = (e : E) × May e × (new ≡ more e)
AddsOne {E = E} May more new false = (e : E) → ¬ May e

-- the next entry of the section was added, or the row is of none
abbrev pub AddsEntry : Kind → SectionName → Parts → Row → Parts → Bool → Type 0
AddsEntry k s old row new b = AddsOne (IsNext k s old row) (with_entry s old) new b

-- the same of the next price of the codes
abbrev pub AddsPrice : Kind → List (List ℕ) → List (List ℤ) → Row → List (List ℤ) → Bool → Type 0
AddsPrice k codes old row new b = AddsOne (NextPrice k codes old row) (added zeros old) new b

-- an entry of the section was added, whose turn it is
pub record AddsIn (k : Kind) (s : SectionName) (old : Parts) (row : Row) (new : Parts) : Type 0 where
  pub turn : MayComeNext k s old
  pub entry : Entry s
  pub next : IsNext k s old row entry
  pub made : new ≡ with_entry s old entry

-- fields that begin with the letter of a section add an entry there
pub record Adds (k : Kind) (old : Parts) (fields : Row) (new : Parts) : Type 0 where
  pub section : SectionName
  pub row : Row
  pub is : fields ≡ letter_of k section ∷ row
  pub adds : AddsIn k section old row new

-- the line of these fields was added, or none may come
abbrev pub AddsLine : Kind → Parts → Row → Parts → Bool → Type 0
AddsLine k old fields new true = Adds k old fields new
AddsLine k old fields new false = (new : Parts) → ¬ Adds k old fields new
