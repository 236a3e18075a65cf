use Rattle.std.proofs.Common.{◌≡◌, ◌<◌, All, length, map, take}
use Rattle.desk.proofs.layers.Common.{code_at}
use Rattle.desk.proofs.layers.session.positions_of.Given as goal

-- the first choices have their positions
abbrev pub invariant-loop-code : goal.invariant-loop-code
invariant-loop-code l = record {
  known : All (λ p. p < length l.projects) l.positions.items;
  named : map (code_at (map (λ p. p.code) l.projects)) l.positions.items ≡ take l.code-index l.choices;
}
