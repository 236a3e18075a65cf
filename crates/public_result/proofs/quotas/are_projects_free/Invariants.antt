use Rattle.std.proofs.Common.{ℕ, ◌<◌, []}
use Rattle.public_result.proofs.Common.{IsNothing, in_project, price, project_quota, with_lists}
use Rattle.public_result.proofs.quotas.are_projects_free.Given as goal

abbrev pub invariant-loop-project : goal.invariant-loop-project
invariant-loop-project l = (p : ℕ) → p < l.project → in_project l.posted p < project_quota (with_lists l.posted []) p → IsNothing (price l.posted.project_prices.items p)
