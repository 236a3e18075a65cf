-- What a student's own check says of the parts of a public text is what it says of the text.
use Rattle.std.proofs.Common.{◌≡◌, ℕ, List, [], ◌∷◌, Result, Ok, Err, String, Global, inr}
use Rattle.std.specs.List.{slice_split}
use Rattle.std.specs.Prelude.{◌==◌}
use Rattle.spa.specs.Order.{order}
use Rattle.public_result.specs.Posted.{IsCleared}
use Rattle.intake.specs.Public.{IsPublicReading}
use Rattle.intake.specs.declared.public_parts.PublicParts.{PublicParts}
use Rattle.office_model.specs.declared.refusal.Refusal.{Refusal}
use Rattle.office_model.specs.declared.refusal.Refusal.TheVariants.{Memory as NoMemory}
use Rattle.round_files.specs.Public.{IsCheckedOwn, IsJudgedBy, IsJudgedOwn, IsPublicTrouble}
use Rattle.round_files.specs.declared.rounds.Trouble.{Trouble}
use Rattle.round_files.specs.declared.rounds.Trouble.TheVariants.{Refused, BadLine, Failed}

-- it is refused only where memory runs out
only_memory : (text : List ℕ) (parts : PublicParts) (student : List ℕ) (list : List (List ℕ)) (r : Refusal) → IsJudgedOwn parts student list (Err (Refused r)) → IsPublicTrouble text (Refused r)
only_memory text parts student list NoMemory h = tt
only_memory text parts student list _ h = absurd h

-- nor is a line of it bad
never_bad : (text : List ℕ) (parts : PublicParts) (fields : List (List ℕ)) (n : ℕ) → IsJudgedBy parts fields (Err (BadLine n)) → IsPublicTrouble text (BadLine n)
never_bad text parts [] n h = absurd h
never_bad text parts (student ∷ list) n h = absurd h

-- the same by the fields of a line
memory_by : (text : List ℕ) (parts : PublicParts) (fields : List (List ℕ)) (r : Refusal) → IsJudgedBy parts fields (Err (Refused r)) → IsPublicTrouble text (Refused r)
memory_by text parts [] r h = only_memory text parts [] [] r h
memory_by text parts (student ∷ list) r h = only_memory text parts student list r h

-- what is said
pub own_said : (text line : List ℕ) (parts : PublicParts) (result : Result (String Global) Trouble) → IsPublicReading text (Ok parts) → IsCleared (order parts.aim) parts.posted → IsJudgedBy parts (slice_split (λ b. b == 44) line) result → IsCheckedOwn text line result
own_said text line parts (Ok printed) read cleared h = record { parts = parts; read = read; cleared = cleared; judged = h }
own_said text line parts (Err (Failed printed)) read cleared h = inr (record { parts = parts; read = read; cleared = cleared; judged = h })
own_said text line parts (Err (Refused r)) read cleared h = memory_by text parts (slice_split (λ b. b == 44) line) r h
own_said text line parts (Err (BadLine n)) read cleared h = never_bad text parts (slice_split (λ b. b == 44) line) n h
