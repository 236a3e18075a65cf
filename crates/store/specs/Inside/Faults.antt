-- Why a call of the store fails, by why a call below it does.
use Rattle.store.specs.Common.{StoreFault, Damaged, Memory, Storage}
use Rattle.sql_tables.specs.declared.fault.TableFault.{TableFault}
use Rattle.sql_tables.specs.declared.fault.TableFault.TheVariants as table
use Rattle.office.specs.declared.from_rows.fault.RowsFault.{RowsFault}
use Rattle.office.specs.declared.from_rows.fault.RowsFault.TheVariants as rows

-- a statement's fault
abbrev pub of_table : TableFault → StoreFault
of_table table.Memory = Memory
of_table table.Storage = Storage

-- that of rows that make no office
abbrev pub of_rows : RowsFault → StoreFault
of_rows rows.Memory = Memory
of_rows rows.Unfit = Damaged
