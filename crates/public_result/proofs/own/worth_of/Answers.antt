use Rattle.std.proofs.Common.{◌≡◌, ◌<◌, ℕ, ℤ, List, length, arith, ap, sym, ◌∙◌, subst}
use Rattle.public_result.proofs.Common.{at, ints, price, offerer, get_or_default}
use Rattle.verdict.proofs.PriceReads.{read_is}
use Rattle.public_result.proofs.own.worth_of.Goals as goal

pub left_of-requires-clause-project : goal.left_of-requires-clause-project
left_of-requires-clause-project c =
    let n = c.requires.prices.project_prices in
    let within : c.args.project < length c.args.posted.now.project_prices.items = omega (arith, c.requires.project) in
    rw (read_is c.args.posted.now.project_prices.items c.args.project c.index-2.result.now within c.index-2.ensures) (c.requires.prices.projects_range c.args.project within)

pub left_of-requires-clause-supervisor : goal.left_of-requires-clause-supervisor
left_of-requires-clause-supervisor c =
    let n = c.requires.prices.supervisor_prices in
    let known : c.index.result.now.0 < length c.args.posted.now.supervisors.items =
    subst (λ (e : ℕ × ℕ). e.0 < length c.args.posted.now.supervisors.items) (sym c.index.ensures) (c.requires.known.offered c.args.project c.index.result.now c.requires.project) in
    let within : c.index.result.now.0 < length c.args.posted.now.supervisor_prices.items = omega (arith, known) in
    rw (read_is c.args.posted.now.supervisor_prices.items c.index.result.now.0 c.index-3.result.now within c.index-3.ensures) (c.requires.prices.supervisors_range c.index.result.now.0 within)

pub returns : goal.returns
returns c =
    let n = c.requires.prices.project_prices in
    let m = c.requires.prices.supervisor_prices in
    let within : c.args.project < length c.args.posted.now.project_prices.items = omega (arith, c.requires.project) in
    let known : c.index.result.now.0 < length c.args.posted.now.supervisors.items =
    subst (λ (e : ℕ × ℕ). e.0 < length c.args.posted.now.supervisors.items) (sym c.index.ensures) (c.requires.known.offered c.args.project c.index.result.now c.requires.project) in
    let inside : c.index.result.now.0 < length c.args.posted.now.supervisor_prices.items = omega (arith, known) in
    let whose : c.index.result.now.0 ≡ offerer c.args.posted.now c.args.project =
    ap (λ (e : ℕ × ℕ). e.0) (c.index.ensures ∙ get_or_default c.args.posted.now.projects.items c.args.project c.index.result.now (0, 0) c.requires.project) in
    λ k h.
    let e = c.left_of.ensures k h in
    let y : at c.index-2.result.now k ≡ price c.args.posted.now.project_prices.items c.args.project k =
    ap (λ (v : List ℤ). at v k) (read_is c.args.posted.now.project_prices.items c.args.project c.index-2.result.now within c.index-2.ensures) in
    let z : at c.index-3.result.now k ≡ price c.args.posted.now.supervisor_prices.items (offerer c.args.posted.now c.args.project) k =
    ap (λ (v : List ℤ). at v k) (read_is c.args.posted.now.supervisor_prices.items c.index.result.now.0 c.index-3.result.now inside c.index-3.ensures)
    ∙ ap (λ (l : ℕ). price c.args.posted.now.supervisor_prices.items l k) whose in
    omega (arith, ints, e, y, z)
