-- Best matchings and their prices.
use Rattle.std.proofs.Common.{◌≡◌, ℕ, ◌<◌, ◌∙◌}
use Rattle.spa.proofs.Aims.{aim_sums, unbeaten_from_best}
use Rattle.spa.proofs.Duality.{best_from_prices}
use Rattle.spa.specs.Matching.{IsUnbeaten, weight_row}
use Rattle.spa.specs.Matched.{pairs}
use Rattle.spa.specs.Order.{order}
use Rattle.spa.specs.declared.TheConstants.{COMPONENTS}
use Rattle.verdict.specs.Rows.{price}
use Rattle.verdict.proofs.Best.{as_rows}
use Rattle.public_result.specs.Posted.{PricesServeAll}
use Rattle.public_result.proofs.Zero.{alike}

-- Step 9 of docs/PROOF.md. Best matchings weigh the same, so prices that add up to what one of them weighs prove each of them
-- best.
pub prices_serve_all : PricesServeAll
prices_serve_all aim i ks js p sound proved matched best =
    let one : IsUnbeaten (order aim) i (pairs i ks) = best_from_prices (aim_sums aim) i (pairs i ks) (price p.students.items) (price p.projects.items) (price p.supervisors.items) (as_rows (order aim) i ks p proved) in
    let other : IsUnbeaten (order aim) i (pairs i js) = unbeaten_from_best aim i (pairs i js) best in
    let same : (k : ℕ) → k < COMPONENTS → weight_row i (pairs i ks) k ≡ weight_row i (pairs i js) k =
    alike aim (weight_row i (pairs i ks)) (weight_row i (pairs i js)) (other.unbeaten (pairs i ks) one.matching) (one.unbeaten (pairs i js) matched.matching) in
    record {
      matched = matched;
      shape = proved.shape;
      not_below = proved.not_below;
      covered = proved.covered;
      equal = λ k h. proved.equal k h ∙ same k h;
    }
