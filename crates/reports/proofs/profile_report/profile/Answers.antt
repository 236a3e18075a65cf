use Rattle.std.proofs.Common.{◌≡◌, ◌++◌, List, ℕ, [], ◌∷◌, length, codes, arith, ap, ◌∙◌, append_assoc}
use Rattle.reports.proofs.Common.{flat_map, range_with_len, styled_decimal, RANKS, lists_of, placed_in_round, right, state_word, rank_row}
use Rattle.office_model.specs.declared.rounds.Listed.{Listed}
use Rattle.reports.proofs.Widths.{right_number}
use Rattle.reports.proofs.profile_report.profile.Goals as goal

-- three lines and what follows them, joined from the right or from the left
head : (a round space state line b students c placed ranks : List ℕ)
    → (a ++ (round ++ (space ++ (state ++ (line ++ (b ++ (students ++ (line ++ (c ++ (placed ++ line)))))))))) ++ ranks ≡ a ++ round ++ (space ++ state) ++ (line ++ (b ++ students ++ line)) ++ (c ++ placed ++ line) ++ ranks
head a round space state line b students c placed ranks = simp append_assoc

pub returns : goal.returns
returns c =
    let o = c.args.office.now in
    let n = c.args.round in
    let ranks = flat_map (rank_row o n) (range_with_len 1 RANKS) in
    let round = ap (λ s. styled_decimal s n) c.laid_out.ensures ∙ right_number 5 n (omega arith) in
    let students = ap (λ s. styled_decimal s (length c.lists.result.now)) c.laid_out-2.ensures ∙ right_number 5 (length c.lists.result.now) (omega arith) ∙ ap (λ (ls : List Listed). right 5 (length ls)) c.lists.ensures.all in
    let placed = ap (λ s. styled_decimal s c.placed_in_round-placed.result) c.laid_out-3.ensures ∙ right_number 5 c.placed_in_round-placed.result (omega arith) ∙ ap (right 5) c.placed_in_round-placed.ensures in
    let state = c.state_word-state.ensures in
    let wrote = c.in_ok-write.ensures.bytes
    ∙ (λ i. c.new-out.ensures.bytes i ++ (codes "ROUND   " ++ (round i ++ (32 ∷ (state i ++ (10 ∷ (codes "STUDENTS" ++ (students i ++ (10 ∷ (codes "PLACED  " ++ (placed i ++ 10 ∷ [])))))))))))
    in
    c.in_ok-push_ranks.ensures ∙ ap (λ l. l ++ ranks) wrote ∙ head (codes "ROUND   ") (right 5 n) (32 ∷ []) (state_word o n) (10 ∷ []) (codes "STUDENTS") (right 5 (length (lists_of o n))) (codes "PLACED  ") (right 5 (placed_in_round o n)) ranks
