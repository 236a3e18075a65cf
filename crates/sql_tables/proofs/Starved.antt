-- A call that returns out of memory ended on a statement that returned it.
use Rattle.sql_tables.proofs.Common.{Row, State, Memory, FailsToWrite, LacksMemory, ◌≡◌, List, ℕ, refl, ◌∙◌}
use Rattle.sql_tables.proofs.Causes.{inside_so, moment_of}

-- a statement
pub lacks : (sql : List ℕ) (params : Row) (old new : State) → FailsToWrite sql params Memory old new → LacksMemory old new
lacks sql params old new it = record { between = moment_of old; kept = refl; sql = sql; params = params; fails = (it.0, inside_so old new sql params it.0 it.1, it.2) }

-- a call after others that committed nothing
pub lacks_after : (old mid new : State) → mid.committed ≡ old.committed → LacksMemory mid new → LacksMemory old new
lacks_after old mid new same it = record { between = it.between; kept = it.kept ∙ same; sql = it.sql; params = it.params; fails = it.fails }
