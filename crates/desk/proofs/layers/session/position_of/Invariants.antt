use Rattle.std.proofs.Common.{◌≢◌, ℕ, ◌<◌, get_or}
use Rattle.desk.proofs.layers.Common.{Project}
use Rattle.desk.proofs.layers.session.position_of.Given as goal

-- no project before this one has the code
abbrev pub invariant-loop-position : goal.invariant-loop-position
invariant-loop-position l = (k : ℕ) (d : Project) → k < l.position → (get_or l.projects k d).code ≢ l.code
