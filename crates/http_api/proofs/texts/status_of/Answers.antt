use Rattle.std.proofs.Common.{◌≡◌, ◌==◌, ℕ, true, subst, sym}
use Rattle.http_api.proofs.Common.{list_any, statuses}
use Rattle.http_api.proofs.Short.{short}
use Rattle.http_api.proofs.texts.status_of.Goals as goal

pub returns-in-Ok-clause-short : goal.returns-in-Ok-clause-short
returns-in-Ok-clause-short c = short c.in-Ok.status (subst (λ (n : ℕ). list_any (λ s. s == n) statuses ≡ true) (sym c.in-Ok.ensures.1) c.status.ensures.known)
