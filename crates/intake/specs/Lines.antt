-- The text of parts: its lines in eight sections, each line a letter and fields.
use Rattle.std.specs.Prelude.{ℕ, zero, ◌-◌, ℤ, pos, Bool, true, false, not, cond, List, [], ◌∷◌, ◌++◌, map, flat_map, Option, Some, None, codes, decimal}
use Rattle.std.specs.Fmt.{signed_decimal}
use Rattle.spa.specs.declared.aim.Aim.{Aim}
use Rattle.spa.specs.declared.aim.Aim.TheVariants.{Greedy, Generous}
use Rattle.spa.specs.Codes.{code_at}
use Rattle.spa.specs.Instance.{Instance, Supervisor, Project, Student, supervisor_codes, project_codes, student_codes}
use Rattle.intake.specs.declared.section.Kind.{Kind}
use Rattle.intake.specs.declared.section.Kind.TheVariants.{Round, Public}
use Rattle.intake.specs.Parts.{Parts}

-- the fields of a line after its letter
abbrev pub Row : Type 0
Row = List (List ℕ)

-- lines with the same letter
pub record Section : Type 0 where
  pub letter : List ℕ
  pub rows : List Row

-- the aim: a greedy one is not written
abbrev pub aim_rows : Aim → List Row
aim_rows Greedy = []
aim_rows Generous = (codes "generous" ∷ []) ∷ []

-- a supervisor: code and quota
abbrev pub supervisor_row : Supervisor → Row
supervisor_row e = e.code ∷ decimal e.quota ∷ []

-- a project: code, supervisor and quota
abbrev pub project_row : Project → Row
project_row e = e.code ∷ e.supervisor ∷ decimal e.quota ∷ []

-- a student: code and list
abbrev pub student_row : Student → Row
student_row e = e.code ∷ e.list

-- the code at a place of a list: the one with k - 1 before it
abbrev pub choice_code : List (List ℕ) → ℕ → List ℕ
choice_code list k = code_at list (k - 1)

-- rows after one, or none
abbrev pub row_before : Option Row → List Row → List Row
row_before None rows = rows
row_before (Some r) rows = r ∷ rows

-- for each entry and what it has the row, where that has one
abbrev pub rows_where : {E X : Type 0} → (E → X → Option Row) → List E → List X → List Row
rows_where row [] xs = []
rows_where row (e ∷ es) [] = []
rows_where row (e ∷ es) (x ∷ xs) = row_before (row e x) (rows_where row es xs)

-- a place: the student's and the project's code
abbrev pub pair_row : Student → Option ℕ → Option Row
pair_row e None = None
pair_row e (Some k) = Some (e.code ∷ choice_code e.list k ∷ [])

-- those of some places
abbrev pub pair_rows : List Student → List (Option ℕ) → List Row
pair_rows es places = rows_where pair_row es places

-- whether each number of a price is zero
abbrev pub is_zero_price : List ℤ → Bool
is_zero_price [] = true
is_zero_price (pos zero ∷ v) = is_zero_price v
is_zero_price (n ∷ v) = false

-- whether a price has a line: in a result each that is not zero
abbrev pub has_line : Kind → List ℤ → Bool
has_line Round v = true
has_line Public v = not (is_zero_price v)

-- a price: the code that has it and its numbers
abbrev pub price_row : Kind → List ℕ → List ℤ → Option Row
price_row k c v = cond (has_line k v) (Some (c ∷ map signed_decimal v)) None

-- those of some prices
abbrev pub price_rows : Kind → List (List ℕ) → List (List ℤ) → List Row
price_rows k cs vs = rows_where (price_row k) cs vs

-- the prices of a roll: their letter, the codes of the roll, and the prices of the first of them
pub record Priced : Type 0 where
  pub letter : List ℕ
  pub codes : List (List ℕ)
  pub prices : List (List ℤ)

-- the prices of the three rolls in their order
abbrev pub priced : Parts → List Priced
priced p =
    record { letter = codes "U"; codes = student_codes p.instance; prices = p.student_prices }
    ∷ record { letter = codes "Y"; codes = project_codes p.instance; prices = p.project_prices }
    ∷ record { letter = codes "Z"; codes = supervisor_codes p.instance; prices = p.supervisor_prices }
    ∷ []

-- the section of the prices of a roll
abbrev pub price_section : Kind → Priced → Section
price_section k s = record { letter = s.letter; rows = price_rows k s.codes s.prices }

-- the letter of the students' lines
abbrev pub student_letter : Kind → List ℕ
student_letter Round = codes "C"
student_letter Public = codes "R"

-- the sections of an aim and an instance
abbrev pub instance_sections : Kind → Aim → Instance → List Section
instance_sections k aim l =
    record { letter = codes "A"; rows = aim_rows aim }
    ∷ record { letter = codes "S"; rows = map supervisor_row l.supervisors }
    ∷ record { letter = codes "P"; rows = map project_row l.projects }
    ∷ record { letter = student_letter k; rows = map student_row l.students }
    ∷ []

-- all sections in their order
abbrev pub sections : Kind → Parts → List Section
sections k p = instance_sections k p.aim p.instance ++ record { letter = codes "M"; rows = pair_rows p.instance.students p.places } ∷ map (price_section k) (priced p)

-- the letter, and each field after a comma
abbrev pub line : List ℕ → Row → List ℕ
line letter row = letter ++ flat_map (λ field. 44 ∷ field) row

-- the lines of a section
abbrev pub section_lines : Section → List (List ℕ)
section_lines s = map (line s.letter) s.rows

-- each line with an LF after it
abbrev pub ended : List (List ℕ) → List ℕ
ended lines = flat_map (λ l. l ++ 10 ∷ []) lines

-- the text of an aim and an instance alone
abbrev pub instance_text : Aim → Instance → List ℕ
instance_text aim l = ended (flat_map section_lines (instance_sections Round aim l))

-- the lines of all sections
abbrev pub lines_of : Kind → Parts → List (List ℕ)
lines_of k p = flat_map section_lines (sections k p)

-- the text of the parts
abbrev pub text_of : Kind → Parts → List ℕ
text_of k p = ended (lines_of k p)

-- the text of a round
abbrev pub round_text : Parts → List ℕ
round_text p = text_of Round p

-- the text of a result that is posted without lists
abbrev pub public_text : Parts → List ℕ
public_text p = text_of Public p
