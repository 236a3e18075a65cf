-- For proofs alone. What a desk keeps between requests.
use Rattle.std.specs.Prelude.{◌≡◌, false}
use Rattle.sqlite.specs.Held.{state}
use Rattle.sqlite_trees.specs.declared.store.Store.{Ghosts}
use Rattle.desk.specs.PersistentOffice.{PersistentState}
use Rattle.desk.specs.Keeping.{Keeps}

-- the tables stand for the office, and no transaction is open
pub record AreKept {S : Type 0} (ghosts : Ghosts S) (persistent : PersistentState S) : Type 0 where
  pub stands : Keeps (state ghosts persistent.store) persistent.office
  pub ended : persistent.store.in_transaction ≡ false
