-- What the command comes to that solves a round file.
use Rattle.std.specs.Prelude.{◌≡◌, ◌⊎◌, ◌+◌, ℕ, List, [], ◌∷◌, take, codes, Result, String}
use Rattle.std.specs.declared.alloc.Global.{Global}
use Rattle.office_model.specs.declared.refusal.Refusal.TheVariants as no
use Rattle.intake.specs.declared.TheConstants.{MAX_BYTES}
use Rattle.host.specs.WorldState.{Found}
use Rattle.round_files.specs.Rounds.{IsSolved}
use Rattle.round_files.specs.declared.rounds.Trouble.{Trouble}
use Rattle.cli.specs.Outcomes.{OnFile, Outcome, of_round, refused}

-- the words of a command that solves this file
abbrev pub solve_words : List (List ℕ)
solve_words = codes "spadesk" ∷ codes "solve" ∷ codes "round.txt" ∷ []

-- memory ran out for the words, or it is what comes of the file
abbrev pub SolvesIn : (List ℕ → Found → Type 0) → Outcome → Type 0
SolvesIn holds o = (o ≡ refused no.Memory) ⊎ OnFile (holds (codes "round.txt")) IsSolved o

-- what comes of solving a text, of which no more is read than the limit and a byte
abbrev pub SolvesText : List ℕ → Outcome → Type 0
SolvesText text o = (came : Result (String Global) Trouble) × IsSolved (take (MAX_BYTES + 1) text) came × (o ≡ of_round came)
