-- The text of a result that is posted without lists, and what it is read as.
use Rattle.std.specs.Prelude.{◌≡◌, ℕ, ◌≤◌, List, [], ◌∷◌, length, map, Contains, Option, Some, None, Result, Ok, Err}
use Rattle.spa.specs.declared.aim.Aim.{Aim}
use Rattle.spa.specs.Named.{instance_of}
use Rattle.public_result.specs.Posted.{IsKnown, HasPrices, with_lists}
use Rattle.public_result.specs.declared.posted.Posted.{Posted}
use Rattle.intake.specs.declared.TheConstants.{MAX_BYTES}
use Rattle.intake.specs.declared.public_parts.PublicParts.{PublicParts}
use Rattle.intake.specs.declared.round.RoundFault.{RoundFault}
use Rattle.intake.specs.declared.section.Kind.TheVariants.{Public}
use Rattle.intake.specs.Parts.{Parts, IsPublicText}
use Rattle.intake.specs.Lines.{public_text}
use Rattle.intake.specs.Reading.{IsFaultOf, pieces}

-- the project that a student is assigned, or none, in the place of the list
abbrev pub assigned_list : Option ℕ → List ℕ
assigned_list None = []
assigned_list (Some p) = p ∷ []

-- what is posted, with an aim and the codes of supervisors, projects and students
abbrev pub posted_parts : Aim → List (List ℕ) → List (List ℕ) → List (List ℕ) → Posted → Parts
posted_parts aim supervisors projects students posted = record {
  aim = aim;
  instance = instance_of (record {
    supervisor_codes = supervisors;
    project_codes = projects;
    student_codes = students;
    shape = with_lists posted (map assigned_list posted.students.items);
  });
  places = [];
  student_prices = [];
  project_prices = posted.project_prices.items;
  supervisor_prices = posted.supervisor_prices.items;
}

-- the parts that were read
abbrev pub public_read : PublicParts → Parts
public_read r = posted_parts r.aim r.supervisors.items r.projects.items r.students.items r.posted

-- the parts of a public text: a code for each entry, and what is posted is known and has prices
pub record IsPublicParts (r : PublicParts) : Type 0 where
  pub supervisors : length r.supervisors.items ≡ length r.posted.supervisors.items
  pub projects : length r.projects.items ≡ length r.posted.projects.items
  pub students : length r.students.items ≡ length r.posted.students.items
  pub parts : IsPublicText (public_read r)
  pub known : IsKnown r.posted
  pub prices : HasPrices r.posted

-- the text is that of the parts, or the fault is its own
abbrev pub IsPublicReading : List ℕ → Result PublicParts RoundFault → Type 0
IsPublicReading text (Ok r) = IsPublicParts r × (text ≡ public_text (public_read r)) × (length text ≤ MAX_BYTES)
IsPublicReading text (Err fault) = IsFaultOf Public text fault

-- a line assigns something to a student: it begins with an R
abbrev pub TellsStudent : List ℕ → Type 0
TellsStudent l = (rest : List ℕ) × (l ≡ 82 ∷ rest)

-- some line of a text does
abbrev pub TellsStudents : List ℕ → Type 0
TellsStudents text = (l : List ℕ) × Contains (pieces text) l × TellsStudent l
