-- What is printed of the text of a round file, on whatever stream and with whatever status a program prints it.
use Rattle.std.specs.Prelude.{◌≡◌, ℕ, List, [], ◌∷◌, ◌++◌, Result, Ok, Err, String, codes, decimal, string_bytes}
use Rattle.std.specs.declared.alloc.Global.{Global}
use Rattle.office_model.specs.declared.refusal.Refusal.{Refusal}
use Rattle.office_model.specs.RefusalInfo.{number_of, name_of}
use Rattle.round_files.specs.declared.rounds.Trouble.{Trouble}
use Rattle.round_files.specs.declared.rounds.Trouble.TheVariants.{Refused, BadLine, Failed}
use Rattle.round_files.specs.Rounds.{IsChecked, IsPublished, IsSolved}
use Rattle.round_files.specs.Public.{IsCheckedOwn}

-- the line of a refusal
abbrev pub refused_line : Refusal → List ℕ
refused_line refusal = codes "refused " ++ decimal (number_of refusal) ++ codes ": " ++ name_of refusal ++ 10 ∷ []

-- what the program prints of a result
abbrev pub line_of : Result (String Global) Trouble → List ℕ
line_of (Ok text) = string_bytes text
line_of (Err (Failed text)) = string_bytes text
line_of (Err (BadLine n)) = codes "bad line " ++ decimal n ++ 10 ∷ []
line_of (Err (Refused refusal)) = refused_line refusal

-- a line that `check` prints of this text
abbrev pub IsPrintedByCheck : List ℕ → List ℕ → Type 0
IsPrintedByCheck text line = (came : Result (String Global) Trouble) × IsChecked text came × (line ≡ line_of came)

-- a text that `solve` prints of this one
abbrev pub IsPrintedBySolve : List ℕ → List ℕ → Type 0
IsPrintedBySolve text line = (came : Result (String Global) Trouble) × IsSolved text came × (line ≡ line_of came)

-- a text that `publish` prints of this one
abbrev pub IsPrintedByPublish : List ℕ → List ℕ → Type 0
IsPrintedByPublish text line = (came : Result (String Global) Trouble) × IsPublished text came × (line ≡ line_of came)

-- a line that `check-own` prints of this text, where its words are these with commas between them
abbrev pub IsPrintedByCheckOwn : List ℕ → List ℕ → List ℕ → Type 0
IsPrintedByCheckOwn text words line = (came : Result (String Global) Trouble) × IsCheckedOwn text words came × (line ≡ line_of came)
