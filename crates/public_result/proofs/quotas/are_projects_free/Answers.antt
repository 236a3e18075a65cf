use Rattle.std.proofs.Common.{◌≡◌, ◌<◌, ℕ, ℤ, List, [], length, arith, sym, ◌∙◌, ap, below_more}
use Rattle.public_result.proofs.Common.{false≢true, at, IsNothing, in_project, price, project_quota, with_lists, get_or_default}
use Rattle.verdict.proofs.PriceReads.{read_is}
use Rattle.public_result.proofs.quotas.are_projects_free.Goals as goal
use Rattle.public_result.proofs.quotas.are_projects_free.Goals.{then-placed_at-index+else-not-is_nothing, else-placed_at-index}

pub returns-then-not-is_nothing : goal.returns-then-not-is_nothing
returns-then-not-is_nothing c =
    let t = c.args.posted.now in
    let p : ℕ = c.loop-project.project in
    let known : p < length t.projects.items = omega (arith, c.loop-project-test.true, c.len-project-end.ensures) in
    let n = c.requires.project_prices in
    let within : p < length t.project_prices.items = omega (arith, known, n) in
    let quota : c.index.result.now.1 ≡ project_quota (with_lists t []) p = ap (λ (e : ℕ × ℕ). e.1) (c.index.ensures ∙ get_or_default t.projects.items p c.index.result.now (0, 0) known) in
    let room : in_project t p < project_quota (with_lists t []) p = let l = c.if-placed_at-index.true in let e = c.placed_at.ensures in omega (arith, l, e, quota) in (
      λ h. absurd (false≢true h),
      λ all. absurd (false≢true (sym c.if-not-is_nothing.true ∙ c.is_nothing.ensures.1 (λ k h. ap (λ (v : List ℤ). at v k) (read_is t.project_prices.items p c.index-then-placed_at-index.result.now within c.index-then-placed_at-index.ensures) ∙ all p known room k h))),
    )

pub loop-project-preserved : goal.loop-project-preserved
loop-project-preserved c =
    let t = c.args.posted.now in
    let p : ℕ = c.loop-project.project in
    let known : p < length t.projects.items = omega (arith, c.loop-project-test.true, c.len-project-end.ensures) in
    let n = c.requires.project_prices in
    let within : p < length t.project_prices.items = omega (arith, known, n) in
    let quota : c.index.result.now.1 ≡ project_quota (with_lists t []) p = ap (λ (e : ℕ × ℕ). e.1) (c.index.ensures ∙ get_or_default t.projects.items p c.index.result.now (0, 0) known) in
    let e = c.placed_at.ensures in
    below_more (λ p. in_project t p < project_quota (with_lists t []) p → IsNothing (price t.project_prices.items p)) p c.loop-project.invariant
    (λ room. elim c.if-placed_at-index.branch [
      | then-placed_at-index+else-not-is_nothing w ↦
          λ k h. sym (ap (λ (v : List ℤ). at v k) (read_is t.project_prices.items p w.index-then-placed_at-index.result.now within w.index-then-placed_at-index.ensures)) ∙ w.is_nothing.ensures.0 w.if-not-is_nothing.false k h
      | else-placed_at-index w ↦ let l = w.if-placed_at-index.false in absurd (omega (arith, l, e, quota, room))
    ])
