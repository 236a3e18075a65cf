use Rattle.store.proofs.Reopened.{finds_ours, opens_ours}
use Rattle.store.proofs.laws.reopening_law.Goals as goal

pub returns-clause-found : goal.returns-clause-found
returns-clause-found c = finds_ours

pub returns-clause-opens : goal.returns-clause-opens
returns-clause-opens c = opens_ours
