-- What the lines on public texts print.
use Rattle.std.specs.Prelude.{◌≡◌, ◌⊎◌, ℕ, ◌<◌, List, [], ◌∷◌, ◌++◌, length, Option, None, Some, Result, Ok, Err, ⊤, String, codes, count_by, decimal, is_some, slice_get, slice_index_or, string_bytes, ◌==◌}
use Rattle.std.specs.List.{AllZip, slice_split}
use Rattle.std.specs.declared.alloc.Global.{Global}
use Rattle.spa.specs.Order.{order}
use Rattle.spa.specs.Codes.{code_at}
use Rattle.spa.specs.Matching.{IsBest, rank_in}
use Rattle.verdict.specs.Verdict.{IsProvedBest}
use Rattle.public_result.specs.Posted.{AreContent, IsCleared, IsContent, IsFirstFailure, IsFirstOwnFailure, assigned, chosen, with_lists}
use Rattle.public_result.specs.declared.posted.Posted.{Posted}
use Rattle.public_result.specs.declared.public.PublicFault.{PublicFault}
use Rattle.public_result.specs.declared.public.PublicFault.TheVariants.{NotMatching, Shape as NoShape, Below, Room}
use Rattle.public_result.specs.declared.own.OwnFault.{OwnFault}
use Rattle.public_result.specs.declared.own.OwnFault.TheVariants.{List as BadList, NotListed, Dear, Better}
use Rattle.intake.specs.Reading.{IsReading}
use Rattle.intake.specs.Lines.{public_text}
use Rattle.intake.specs.Public.{IsPublicReading, posted_parts}
use Rattle.intake.specs.declared.public_parts.PublicParts.{PublicParts}
use Rattle.intake.specs.declared.round.RoundParts.{RoundParts}
use Rattle.intake.specs.declared.round.RoundFault.TheVariants.{TooLarge, Line}
use Rattle.office_model.specs.declared.refusal.Refusal.TheVariants.{Memory as NoMemory, TooLarge as AboveLimit}
use Rattle.round_files.specs.declared.rounds.Trouble.{Trouble}
use Rattle.round_files.specs.declared.rounds.Trouble.TheVariants.{Refused, BadLine, Failed}

-- What is printed is what is posted of the round, with its aim and codes: the pairs of its matching, with prices that everybody's
-- check and each student's own accept.
pub record IsPublicationOf (round : RoundParts) (printed : List ℕ) : Type 0 where
  pub posted : Posted
  pub rolls : with_lists posted round.instance.shape.students ≡ round.instance.shape
  pub told : posted.students.items ≡ chosen round.instance.shape.students round.matching.places.items
  pub cleared : IsCleared (order round.aim) posted
  pub content : AreContent (order round.aim) posted round.instance.shape.students
  pub is : printed ≡ public_text (posted_parts round.aim round.instance.supervisor_codes round.instance.project_codes round.instance.student_codes posted)

-- what is printed is the public text of this round text, whose prices prove its matching best by its aim
pub record IsPublication (text printed : List ℕ) : Type 0 where
  pub round : RoundParts
  pub read : IsReading text (Ok round)
  pub best : IsProvedBest (order round.aim) round.instance.shape round.matching.places.items round.prices
  pub publication : IsPublicationOf round printed

-- how many students are assigned a project, of how many
abbrev pub accepted_text : Posted → List ℕ
accepted_text t = codes "accepted size " ++ decimal (count_by is_some t.students.items) ++ codes " students " ++ decimal (length t.students.items) ++ 10 ∷ []

-- the number of the condition of everybody's check that fails
abbrev pub public_fault_text : PublicFault → List ℕ
public_fault_text NotMatching = codes "fault 1" ++ 10 ∷ []
public_fault_text NoShape = codes "fault 2" ++ 10 ∷ []
public_fault_text Below = codes "fault 3" ++ 10 ∷ []
public_fault_text Room = codes "fault 5" ++ 10 ∷ []

-- What is printed is how many students are assigned a project, of how many, and everybody's check accepts by the text's aim. So what is
-- assigned is best for all lists at which each student's own check accepts.
pub record IsPublicYes (text printed : List ℕ) : Type 0 where
  pub parts : PublicParts
  pub read : IsPublicReading text (Ok parts)
  pub cleared : IsCleared (order parts.aim) parts.posted
  pub best : (lists : List (List ℕ)) → AreContent (order parts.aim) parts.posted lists → IsBest parts.aim (with_lists parts.posted lists) (assigned parts.posted)
  pub is : printed ≡ accepted_text parts.posted

-- what is printed is the first condition of everybody's check that fails
pub record IsPublicNo (text printed : List ℕ) : Type 0 where
  pub parts : PublicParts
  pub fault : PublicFault
  pub read : IsPublicReading text (Ok parts)
  pub first : IsFirstFailure (order parts.aim) parts.posted fault
  pub is : printed ≡ public_fault_text fault

-- the text is no public one, as is returned; out of memory may take the place of anything
abbrev pub IsPublicTrouble : List ℕ → Trouble → Type 0
IsPublicTrouble text (Refused NoMemory) = ⊤
IsPublicTrouble text (Refused AboveLimit) = IsPublicReading text (Err TooLarge)
IsPublicTrouble text (Refused _) = ⊥
IsPublicTrouble text (BadLine n) = IsPublicReading text (Err (Line n))
IsPublicTrouble text (Failed printed) = ⊥

-- what `check` makes of a public text
abbrev pub IsCheckedPublic : List ℕ → Result (String Global) Trouble → Type 0
IsCheckedPublic text (Ok printed) = IsPublicYes text (string_bytes printed)
IsCheckedPublic text (Err (Failed printed)) = IsPublicNo text (string_bytes printed)
IsCheckedPublic text (Err (Refused refusal)) = IsPublicTrouble text (Refused refusal)
IsCheckedPublic text (Err (BadLine n)) = IsPublicTrouble text (BadLine n)

-- a text is none of the codes
abbrev pub StandsNowhere : List (List ℕ) → List ℕ → Type 0
StandsNowhere roll text = (p : ℕ) → ¬ (slice_get roll p ≡ Some text)

-- the position of a text among codes, or of none of them the one after the last
abbrev pub IsPositionOf : List (List ℕ) → List ℕ → ℕ → Type 0
IsPositionOf roll text p = (slice_get roll p ≡ Some text) ⊎ (StandsNowhere roll text × (p ≡ length roll))

-- the project with its rank on a list, or none
abbrev pub own_text : List (List ℕ) → List ℕ → Option ℕ → List ℕ
own_text projects list None = codes "accepted none" ++ 10 ∷ []
own_text projects list (Some p) = codes "accepted " ++ code_at projects p ++ 32 ∷ decimal (rank_in list p) ++ 10 ∷ []

-- the number of the condition of a student's own check that fails; of what is worth more, also the student's code and the place in the
-- list, 0 for going without
abbrev pub own_fault_text : List ℕ → OwnFault → List ℕ
own_fault_text student BadList = codes "fault 7" ++ 10 ∷ []
own_fault_text student NotListed = codes "fault 6" ++ 10 ∷ []
own_fault_text student Dear = codes "fault 4 " ++ student ++ codes " 0" ++ 10 ∷ []
own_fault_text student (Better k) = codes "fault 4 " ++ student ++ 32 ∷ decimal k ++ 10 ∷ []

-- what is printed is that no line is the student's
pub record IsAbsent (parts : PublicParts) (student printed : List ℕ) : Type 0 where
  pub nowhere : StandsNowhere parts.students.items student
  pub is : printed ≡ codes "not in this round" ++ 10 ∷ []

-- The line at a position is the student's, and a list of positions is that of the codes. A code that is no project's has the position
-- after the last, so a list with one is none of the round.
pub record IsAsked (parts : PublicParts) (student : List ℕ) (list : List (List ℕ)) (s : ℕ) (positions : List ℕ) : Type 0 where
  pub here : slice_get parts.students.items s ≡ Some student
  pub listed : AllZip (IsPositionOf parts.projects.items) list positions

-- what is printed is the project with its rank on the list, and the student is content with it by the text's aim
pub record IsOwnYes (parts : PublicParts) (student : List ℕ) (list : List (List ℕ)) (printed : List ℕ) : Type 0 where
  pub s : ℕ
  pub positions : List ℕ
  pub asked : IsAsked parts student list s positions
  pub content : IsContent (order parts.aim) parts.posted positions (slice_index_or parts.posted.students.items s None)
  pub is : printed ≡ own_text parts.projects.items positions (slice_index_or parts.posted.students.items s None)

-- what is printed is the first condition of the student's own check that fails
pub record IsOwnNo (parts : PublicParts) (student : List ℕ) (list : List (List ℕ)) (printed : List ℕ) : Type 0 where
  pub s : ℕ
  pub positions : List ℕ
  pub fault : OwnFault
  pub asked : IsAsked parts student list s positions
  pub first : IsFirstOwnFailure (order parts.aim) parts.posted positions (slice_index_or parts.posted.students.items s None) fault
  pub is : printed ≡ own_fault_text student fault

-- what a student's own check says of the parts of a public text, by the student's code and list
abbrev pub IsJudgedOwn : PublicParts → List ℕ → List (List ℕ) → Result (String Global) Trouble → Type 0
IsJudgedOwn parts student list (Ok printed) = IsOwnYes parts student list (string_bytes printed)
IsJudgedOwn parts student list (Err (Failed printed)) = IsAbsent parts student (string_bytes printed) ⊎ IsOwnNo parts student list (string_bytes printed)
IsJudgedOwn parts student list (Err (Refused NoMemory)) = ⊤
IsJudgedOwn parts student list (Err (Refused _)) = ⊥
IsJudgedOwn parts student list (Err (BadLine n)) = ⊥

-- the same by the fields of a line: the first is the code
abbrev pub IsJudgedBy : PublicParts → List (List ℕ) → Result (String Global) Trouble → Type 0
IsJudgedBy parts [] result = IsJudgedOwn parts [] [] result
IsJudgedBy parts (student ∷ list) result = IsJudgedOwn parts student list result

-- everybody's check accepts, and a student's own says this of the code and the list of a line
pub record IsJudged (text line : List ℕ) (result : Result (String Global) Trouble) : Type 0 where
  pub parts : PublicParts
  pub read : IsPublicReading text (Ok parts)
  pub cleared : IsCleared (order parts.aim) parts.posted
  pub judged : IsJudgedBy parts (slice_split (λ b. b == 44) line) result

-- what `check-own` makes of a public text and a line
abbrev pub IsCheckedOwn : List ℕ → List ℕ → Result (String Global) Trouble → Type 0
IsCheckedOwn text line (Ok printed) = IsJudged text line (Ok printed)
IsCheckedOwn text line (Err (Failed printed)) = IsPublicNo text (string_bytes printed) ⊎ IsJudged text line (Err (Failed printed))
IsCheckedOwn text line (Err (Refused refusal)) = IsPublicTrouble text (Refused refusal)
IsCheckedOwn text line (Err (BadLine n)) = IsPublicTrouble text (BadLine n)
