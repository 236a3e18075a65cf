use Rattle.sql_tables.proofs.Common.{refl}
use Rattle.sql_tables.proofs.table.TableShaped.shape.Goals as goal

pub returns-in-OldChoice-clause-texts : goal.returns-in-OldChoice-clause-texts
returns-in-OldChoice-clause-texts c = rw c.in-OldChoice.is refl
