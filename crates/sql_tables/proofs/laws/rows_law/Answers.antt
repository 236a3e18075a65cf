use Rattle.sql_tables.proofs.Common.{values}
use Rattle.sql_tables.proofs.Made.{enters, leaves}
use Rattle.sql_tables.proofs.laws.rows_law.Goals as goal

pub returns-clause-entry : goal.returns-clause-entry
returns-clause-entry c way table row old new fits made = enters table row fits way old new made

pub returns-clause-leaving : goal.returns-clause-leaving
returns-clause-leaving c group key old new made = leaves group (values key) old new made
