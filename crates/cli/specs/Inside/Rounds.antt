-- For proofs alone. What a line does with the round of a file.
use Rattle.std.specs.Prelude.{ℕ, List, Result, String}
use Rattle.std.specs.declared.alloc.Global.{Global}
use Rattle.round_files.specs.Rounds.{IsSolved, IsChecked, IsPublished}
use Rattle.round_files.specs.Public.{IsCheckedOwn}
use Rattle.round_files.specs.declared.rounds.Trouble.{Trouble}
use Rattle.cli.specs.declared.rounds.RoundTask.{RoundTask}
use Rattle.cli.specs.declared.rounds.RoundTask.TheVariants.{Solve, Check, Publish, CheckOwn}

-- what comes of the bytes of a round file, each way
abbrev pub ComesBy : RoundTask → List ℕ → Result (String Global) Trouble → Type 0
ComesBy Solve = IsSolved
ComesBy Check = IsChecked
ComesBy Publish = IsPublished
ComesBy (CheckOwn own) = λ text. IsCheckedOwn text own.now
