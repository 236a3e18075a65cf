use Rattle.std.proofs.Common.{◌≡◌, ◌≢◌, ◌<◌, ◌+◌, ◌==◌, ℕ, List, length, get_or, arith, ◌∙◌, refl, true, false, eqb, eq-eqb, ne_eqb, not, slice_index}
use Rattle.public_result.proofs.Common.{rank_in, get_or_default}
use Rattle.std.proofs.lemmas.List.Sums.{prefix_len_is}
use Rattle.public_result.proofs.own.place_of.Goals as goal

-- the first place of a project is its rank
rank_is : (xs : List ℕ) (p k : ℕ) → k < length xs → ((j : ℕ) → j < k → slice_index xs j ≢ p) → slice_index xs k ≡ p → rank_in xs p ≡ k + 1
rank_is xs p k h before here =
    let first = prefix_len_is (λ q. not (q == p)) xs k 0 (omega arith)
    (λ j l. let e : eqb (get_or xs j 0) p ≡ false = ne_eqb (get_or xs j 0) p (before j l) in rw e refl)
    (λ l. let e : eqb (get_or xs k 0) p ≡ true = eq-eqb (get_or xs k 0) p here in rw e refl) in
    omega (arith, first)

pub returns-then-list-before : goal.returns-then-list-before
returns-then-list-before c =
    let xs = c.args.list.now in
    let k : ℕ = c.loop-before.before in
    let p : ℕ = c.args.project in
    let within : k < length xs = c.loop-before-test.true in
    let here : get_or xs k 0 ≡ p = c.if-list-before.true in (
      record { first = omega arith; last = omega arith },
      (k, within, get_or_default xs k p 0 within ∙ here),
      rank_is xs p k within c.loop-before.invariant here,
    )
