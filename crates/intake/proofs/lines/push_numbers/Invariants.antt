use Rattle.std.proofs.Common.{◌≡◌, ◌++◌, ◌∷◌, map, drop, flat_map, string_bytes}
use Rattle.intake.proofs.Common.{signed_decimal}
use Rattle.intake.proofs.lines.push_numbers.Given as goal

abbrev pub invariant-loop-number : goal.invariant-loop-number
invariant-loop-number l =
    string_bytes l.out ++ flat_map (λ field. 44 ∷ field) (map signed_decimal (drop l.number-index l.price))
    ≡ string_bytes l.fn.out ++ flat_map (λ field. 44 ∷ field) (map signed_decimal l.price)
