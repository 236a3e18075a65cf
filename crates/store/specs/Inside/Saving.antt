-- For proofs alone. What saving a change, and making the tables, do.
use Rattle.store.specs.Common.{Database, Change, AllRows, after_change, empty}
use Rattle.store.specs.Tables.{TablesHold, StandsFor, AreRuled, LeavesTables}
use Rattle.store.specs.Saving.{Needs, Spares}

-- the same, of one change
unfoldable pub AppliesOne : Change → Database → Database → Type 0
AppliesOne change old new =
    Needs change old.schema → (rows : AllRows) → TablesHold old rows → TablesHold new (after_change change rows) × Spares old new

-- a database comes to stand for the empty office, in tables as they are made here, next to those that were there
unfoldable pub Empties : Database → Database → Type 0
Empties old new = StandsFor new empty × AreRuled new.schema × LeavesTables old new
