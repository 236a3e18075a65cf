use Rattle.std.proofs.Common.{◌≡◌, ◌<◌, ℕ, ℤ, List, [], length, arith, sym, ◌∙◌, ap, below_more}
use Rattle.public_result.proofs.Common.{false≢true, at, IsNothing, with_supervisor, price, supervisor_quota, with_lists, get_or_default}
use Rattle.verdict.proofs.PriceReads.{read_is}
use Rattle.public_result.proofs.quotas.are_supervisors_free.Goals as goal
use Rattle.public_result.proofs.quotas.are_supervisors_free.Goals.{then-placed_with-index+else-not-is_nothing, else-placed_with-index}

pub returns-then-not-is_nothing : goal.returns-then-not-is_nothing
returns-then-not-is_nothing c =
    let t = c.args.posted.now in
    let p : ℕ = c.loop-supervisor.supervisor in
    let known : p < length t.supervisors.items = omega (arith, c.loop-supervisor-test.true, c.len-supervisor-end.ensures) in
    let n = c.requires.prices.supervisor_prices in
    let within : p < length t.supervisor_prices.items = omega (arith, known, n) in
    let quota : c.index.result.now ≡ supervisor_quota (with_lists t []) p = c.index.ensures ∙ get_or_default t.supervisors.items p c.index.result.now 0 known in
    let room : with_supervisor t p < supervisor_quota (with_lists t []) p = let l = c.if-placed_with-index.true in let e = c.placed_with.ensures in omega (arith, l, e, quota) in (
      λ h. absurd (false≢true h),
      λ all. absurd (false≢true (sym c.if-not-is_nothing.true ∙ c.is_nothing.ensures.1 (λ k h. ap (λ (v : List ℤ). at v k) (read_is t.supervisor_prices.items p c.index-then-placed_with-index.result.now within c.index-then-placed_with-index.ensures) ∙ all p known room k h))),
    )

pub loop-supervisor-preserved : goal.loop-supervisor-preserved
loop-supervisor-preserved c =
    let t = c.args.posted.now in
    let p : ℕ = c.loop-supervisor.supervisor in
    let known : p < length t.supervisors.items = omega (arith, c.loop-supervisor-test.true, c.len-supervisor-end.ensures) in
    let n = c.requires.prices.supervisor_prices in
    let within : p < length t.supervisor_prices.items = omega (arith, known, n) in
    let quota : c.index.result.now ≡ supervisor_quota (with_lists t []) p = c.index.ensures ∙ get_or_default t.supervisors.items p c.index.result.now 0 known in
    let e = c.placed_with.ensures in
    below_more (λ p. with_supervisor t p < supervisor_quota (with_lists t []) p → IsNothing (price t.supervisor_prices.items p)) p c.loop-supervisor.invariant
    (λ room. elim c.if-placed_with-index.branch [
      | then-placed_with-index+else-not-is_nothing w ↦
          λ k h. sym (ap (λ (v : List ℤ). at v k) (read_is t.supervisor_prices.items p w.index-then-placed_with-index.result.now within w.index-then-placed_with-index.ensures)) ∙ w.is_nothing.ensures.0 w.if-not-is_nothing.false k h
      | else-placed_with-index w ↦ let l = w.if-placed_with-index.false in absurd (omega (arith, l, e, quota, room))
    ])
