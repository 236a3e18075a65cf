use Rattle.std.proofs.Common.{◌≡◌, ℕ, ◌<◌, ℤ, List, length, ◌++◌, drop, get_or, string_bytes}
use Rattle.intake.proofs.Common.{COMPONENTS}
use Rattle.intake.proofs.RestOfText.{price_text}
use Rattle.intake.proofs.write.write_prices.Given as goal

abbrev pub invariant-loop-n : goal.invariant-loop-n
invariant-loop-n l = record {
  text : string_bytes l.out ++ price_text l.kind l.letter (drop l.n l.roll) (drop l.n l.prices)
      ≡ string_bytes l.fn.out ++ price_text l.kind l.letter l.roll l.prices;
  numbers : (k : ℕ) (d : List ℤ) → k < l.n → length (get_or l.prices k d) ≡ COMPONENTS;
}
