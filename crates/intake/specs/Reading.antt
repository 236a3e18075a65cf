-- What a text is read as: its parts, or the first line up to which its lines begin no text of the kind.
use Rattle.std.specs.Prelude.{◌≡◌, ℕ, ◌+◌, ◌<◌, ◌≤◌, ◌==◌, List, ◌++◌, length, take, ⊤, Result, Ok, Err}
use Rattle.std.specs.List.{slice_split}
use Rattle.intake.specs.declared.TheConstants.{MAX_BYTES}
use Rattle.intake.specs.declared.round.RoundParts.{RoundParts}
use Rattle.intake.specs.declared.round.RoundFault.{RoundFault}
use Rattle.intake.specs.declared.round.RoundFault.TheVariants.{Memory, TooLarge, Line}
use Rattle.intake.specs.declared.section.Kind.{Kind}
use Rattle.intake.specs.declared.section.Kind.TheVariants.{Round}
use Rattle.intake.specs.Parts.{Parts, ArePartsOf, IsRoundParts}
use Rattle.intake.specs.Lines.{lines_of, text_of, round_text}
use Rattle.intake.specs.View.{parts_read}

-- the pieces of a text between its LFs: its lines, and what stands after the last LF
abbrev pub pieces : List ℕ → List (List ℕ)
pieces text = slice_split (λ b. b == 10) text

-- the lines begin the lines of some parts
abbrev pub BeginsLines : Kind → List (List ℕ) → Type 0
BeginsLines k lines = (p : Parts) × (rest : List (List ℕ)) × ArePartsOf k p × (lines_of k p ≡ lines ++ rest)

-- n, counted from 1, is the first line up to which the lines begin no text of the kind; a line has its LF, and n is one
-- more than the number of lines where the text ends too early
pub record IsFirstBadLine (k : Kind) (text : List ℕ) (n : ℕ) : Type 0 where
  pub before : ℕ
  pub number : n ≡ before + 1
  pub there : before < length (pieces text)
  pub good : BeginsLines k (take before (pieces text))
  pub bad : n < length (pieces text) → ¬ BeginsLines k (take n (pieces text))
  pub refused : (p : Parts) → ArePartsOf k p → ¬ (text ≡ text_of k p)

-- the fault is that of the text; out of memory may take the place of any
abbrev pub IsFaultOf : Kind → List ℕ → RoundFault → Type 0
IsFaultOf k text Memory = ⊤
IsFaultOf k text TooLarge = MAX_BYTES < length text
IsFaultOf k text (Line n) = (length text ≤ MAX_BYTES) × IsFirstBadLine k text n

-- the text is that of the parts, or the fault is its own
abbrev pub IsReading : List ℕ → Result RoundParts RoundFault → Type 0
IsReading text (Ok r) = IsRoundParts (parts_read r) × (text ≡ round_text (parts_read r)) × (length text ≤ MAX_BYTES)
IsReading text (Err fault) = IsFaultOf Round text fault

-- what the text of parts may be read as: these parts; out of memory may take their place
abbrev pub IsReadBack : Parts → Result RoundParts RoundFault → Type 0
IsReadBack p (Ok r) = parts_read r ≡ p
IsReadBack p (Err Memory) = ⊤
IsReadBack p (Err TooLarge) = ⊥
IsReadBack p (Err (Line n)) = ⊥
