use Rattle.std.proofs.Common.{◌≡◌, ◌++◌, ◌∷◌, map, drop, flat_map, string_bytes}
use Rattle.intake.proofs.Common.{code_at}
use Rattle.intake.proofs.lines.push_codes.Given as goal

abbrev pub invariant-loop-position : goal.invariant-loop-position
invariant-loop-position l =
    string_bytes l.out ++ flat_map (λ field. 44 ∷ field) (map (code_at l.known) (drop l.position-index l.positions))
    ≡ string_bytes l.fn.out ++ flat_map (λ field. 44 ∷ field) (map (code_at l.known) l.positions)
