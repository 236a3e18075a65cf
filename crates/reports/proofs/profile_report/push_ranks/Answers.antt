use Rattle.std.proofs.Common.{◌≡◌, suc, ◌+◌, ◌-◌, ◌++◌, List, ℕ, [], ◌∷◌, length, replicate, codes, decimal, string_bytes, arith, sym, ap, ◌∙◌, append_assoc}
use Rattle.reports.proofs.Common.{styled_decimal, RANKS, placed_at_rank, left, right, rank_row}
use Rattle.reports.proofs.Widths.{left_number, right_number}
use Rattle.reports.proofs.Lines.{next_number, appended}
use Rattle.reports.proofs.profile_report.push_ranks.Goals as goal

-- the name of a rank in 8, of which 5 are for its word
named : (digits count : List ℕ) → codes "RANK " ++ (left 3 digits ++ (count ++ 10 ∷ [])) ≡ left 8 (codes "RANK " ++ digits) ++ count ++ 10 ∷ []
named digits count =
    ap (λ n. codes "RANK " ++ ((digits ++ replicate n 32) ++ (count ++ 10 ∷ []))) (let e : 3 - length digits ≡ 8 - suc (suc (suc (suc (suc (length digits))))) = omega arith in e)
    ∙ sym (append_assoc (left 8 (codes "RANK " ++ digits)) count (10 ∷ []))

pub loop-k-preserved : goal.loop-k-preserved
loop-k-preserved c =
    let rank = c.loop-k.k + 1 in
    let old = string_bytes c.loop-k.out in
    let placed = placed_at_rank c.args.office.now c.args.round rank in
    let digits = ap (λ s. styled_decimal s rank) c.laid_out.ensures ∙ left_number 3 rank (omega arith) in
    let count = ap (λ s. styled_decimal s c.placed_at_rank-placed.result) c.laid_out-in-loop-k.ensures ∙ right_number 5 c.placed_at_rank-placed.result (omega arith) ∙ ap (right 5) c.placed_at_rank-placed.ensures in
    let wrote = c.in_ok-writeln.ensures.bytes ∙ (λ i. old ++ (codes "RANK " ++ (digits i ++ (count i ++ 10 ∷ [])))) ∙ ap (λ l. old ++ l) (named (decimal rank) (right 5 placed)) in
    appended (rank_row c.args.office.now c.args.round) rank _ _ _ _ _ (next_number rank (RANKS - c.loop-k.k) (RANKS - rank) (omega arith)) wrote c.loop-k.invariant
