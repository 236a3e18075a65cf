-- What the lines on round files print.
use Rattle.std.specs.Prelude.{◌≡◌, ℕ, List, [], ◌∷◌, ◌++◌, length, map, flat_map, Option, Result, Ok, Err, ⊤, String, codes, decimal, string_bytes}
use Rattle.std.specs.List.{range_with_len}
use Rattle.std.specs.declared.alloc.Global.{Global}
use Rattle.spa.specs.declared.TheConstants.{RANKS}
use Rattle.spa.specs.Order.{order}
use Rattle.spa.specs.Codes.{code_at}
use Rattle.spa.specs.Shape.{Shape}
use Rattle.spa.specs.Named.{Named}
use Rattle.spa.specs.Matching.{IsBest, profile}
use Rattle.spa.specs.Matched.{pairs}
use Rattle.verdict.specs.Verdict.{IsProvedBest, IsFirstFailure}
use Rattle.verdict.specs.declared.conditions.CheckFault.{CheckFault}
use Rattle.verdict.specs.declared.conditions.CheckFault.TheVariants.{NotMatching, Shape as NoShape, Below, Uncovered, Unequal}
use Rattle.intake.specs.Lines.{round_text}
use Rattle.intake.specs.Reading.{IsReading}
use Rattle.intake.specs.View.{proved}
use Rattle.intake.specs.Public.{TellsStudents}
use Rattle.round_files.specs.Public.{IsCheckedPublic, IsPublication}
use Rattle.intake.specs.declared.round.RoundParts.{RoundParts}
use Rattle.intake.specs.declared.round.RoundFault.TheVariants.{TooLarge, Line}
use Rattle.verdict.specs.declared.conditions.Proved.{Proved}
use Rattle.office_model.specs.declared.refusal.Refusal.TheVariants.{Memory as NoMemory, TooLarge as AboveLimit}
use Rattle.round_files.specs.declared.rounds.Trouble.{Trouble}
use Rattle.round_files.specs.declared.rounds.Trouble.TheVariants.{Refused, BadLine, Failed}

-- what is printed is the round of the text, its aim with it, with a matching and prices that prove it best by this aim
pub record IsSolution (text printed : List ℕ) : Type 0 where
  pub round : RoundParts
  pub solved : Proved
  pub read : IsReading text (Ok round)
  pub best : IsProvedBest (order round.aim) round.instance.shape solved.matching.places.items solved.prices
  pub is : printed ≡ round_text (proved round.instance round.aim solved.matching.places.items solved.prices)

-- the size, and the numbers of pairs of rank 1 and so on, of the matching that places stand for
abbrev pub best_text : Shape → List (Option ℕ) → List ℕ
best_text i ks =
    codes "best size " ++ decimal (length (pairs i ks)) ++ codes " profile" ++ flat_map (λ n. 32 ∷ decimal n) (map (profile i (pairs i ks)) (range_with_len 0 RANKS)) ++ 10 ∷ []

-- the number of the condition that fails; of the fourth, also the student's code and the place in the list
abbrev pub fault_text : Named → CheckFault → List ℕ
fault_text i NotMatching = codes "fault 1" ++ 10 ∷ []
fault_text i NoShape = codes "fault 2" ++ 10 ∷ []
fault_text i Below = codes "fault 3" ++ 10 ∷ []
fault_text i (Uncovered s n) = codes "fault 4 " ++ code_at i.student_codes s ++ 32 ∷ decimal n ++ 10 ∷ []
fault_text i Unequal = codes "fault 5" ++ 10 ∷ []

-- what is printed is size and profile of the text's matching, which its prices prove best by the text's aim
pub record IsYes (text printed : List ℕ) : Type 0 where
  pub round : RoundParts
  pub read : IsReading text (Ok round)
  pub best : IsProvedBest (order round.aim) round.instance.shape round.matching.places.items round.prices
  pub maximum : IsBest round.aim round.instance.shape (pairs round.instance.shape round.matching.places.items)
  pub is : printed ≡ best_text round.instance.shape round.matching.places.items

-- what is printed is the first condition that fails, by the text's aim, of its matching and prices
pub record IsNo (text printed : List ℕ) : Type 0 where
  pub round : RoundParts
  pub fault : CheckFault
  pub read : IsReading text (Ok round)
  pub first : IsFirstFailure (order round.aim) round.instance.shape round.matching.places.items round.prices fault
  pub is : printed ≡ fault_text round.instance fault

-- the text is none of a round, as is returned; out of memory may take the place of anything
abbrev pub IsTrouble : List ℕ → Trouble → Type 0
IsTrouble text (Refused NoMemory) = ⊤
IsTrouble text (Refused AboveLimit) = IsReading text (Err TooLarge)
IsTrouble text (Refused _) = ⊥
IsTrouble text (BadLine n) = IsReading text (Err (Line n))
IsTrouble text (Failed printed) = ⊥

-- what `solve` makes of a text
abbrev pub IsSolved : List ℕ → Result (String Global) Trouble → Type 0
IsSolved text (Ok printed) = IsSolution text (string_bytes printed)
IsSolved text (Err trouble) = IsTrouble text trouble

-- what `check` makes of a round text
abbrev pub IsCheckedRound : List ℕ → Result (String Global) Trouble → Type 0
IsCheckedRound text (Ok printed) = IsYes text (string_bytes printed)
IsCheckedRound text (Err (Failed printed)) = IsNo text (string_bytes printed)
IsCheckedRound text (Err (Refused refusal)) = IsTrouble text (Refused refusal)
IsCheckedRound text (Err (BadLine n)) = IsTrouble text (BadLine n)

-- what `check` makes of a text: where a line assigns something to a student it is a public text
pub record IsChecked (text : List ℕ) (result : Result (String Global) Trouble) : Type 0 where
  pub public : TellsStudents text → IsCheckedPublic text result
  pub round : (TellsStudents text → ⊥) → IsCheckedRound text result

-- what `publish` makes of a round text
abbrev pub IsPublished : List ℕ → Result (String Global) Trouble → Type 0
IsPublished text (Ok printed) = IsPublication text (string_bytes printed)
IsPublished text (Err (Failed printed)) = IsNo text (string_bytes printed)
IsPublished text (Err (Refused refusal)) = IsTrouble text (Refused refusal)
IsPublished text (Err (BadLine n)) = IsTrouble text (BadLine n)
