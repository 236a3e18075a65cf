-- For proofs alone. What the lines on round files print.
use Rattle.intake.specs.declared.round.RoundFault.{RoundFault}
use Rattle.intake.specs.declared.round.RoundFault.TheVariants.{Memory, TooLarge, Line}
use Rattle.office_model.specs.declared.refusal.Refusal.TheVariants.{Memory as NoMemory, TooLarge as AboveLimit}
use Rattle.round_files.specs.declared.rounds.Trouble.{Trouble}
use Rattle.round_files.specs.declared.rounds.Trouble.TheVariants.{Refused, BadLine}

-- what is returned of a text that was not read
abbrev pub trouble_of : RoundFault → Trouble
trouble_of Memory = Refused NoMemory
trouble_of TooLarge = Refused AboveLimit
trouble_of (Line n) = BadLine n
