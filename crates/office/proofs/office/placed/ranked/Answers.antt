use Rattle.office.proofs.Common.{RANKS, ℕ, ap, ◌∙◌, arith, ◌+◌, count_by, ◌==◌, ◌&&◌}
use Rattle.office_model.proofs.Numbered.{listed}
use Rattle.office.proofs.office.placed.ranked.Goals as goal

pub returns : goal.returns
returns c =
    let at : ℕ → ℕ = λ k. count_by (λ p. (p.round == c.args.round) && (p.rank == k + 1)) c.args.placements.now in
    listed c.loop-k.counts at 0 RANKS c.loop-k.invariant.whole (λ j less. c.loop-k.invariant.so_far j (omega (arith, less, c.loop-k-test.false)) ∙ ap at (omega arith))
